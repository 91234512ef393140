use lib.ListN.{length-set}
use mathlib.Core.Path.{◌∙◌}
use native.Mathlib.Omega.{arith}
use Rattle.std.proofs.Common.{rules}
use Rattle.archive.proofs.Held.{moved_next, moved_on_lem, place_within}
use Rattle.archive.proofs.Restoring.{blank_size, blank, marks_more, values_more}
use Rattle.archive.proofs.blocks.put_block.Goals as goal

pub put_column-requires : goal.put_column-requires
put_column-requires c =
    let a = c.args in
    let p = a.plan.now in
    let k = c.loop-f in
    let l = c.loop-f-test.true in
    let t = c.block_end-finish.result in
    let end = c.block_end-finish.ensures in (
      l,
      end.1,
      k.auto.marks ∙ blank_size p.flows a.begin t p.ticks a.marks.now _ (omega (arith, end.0)) end.1 c.requires.1 (c.fill.ensures.after (λ y e. e)),
      k.auto.values ∙ blank_size p.flows a.begin t p.ticks a.values.now _ (omega (arith, end.0)) end.1 c.requires.2 (c.fill-2.ensures.after (λ y e. e)),
      omega (
        arith,
        c.requires.3,
        place_within p.flows p.clocks.now p.ticks c.args.begin c.block_end-finish.result k.f (p.sound.positive k.f l) (omega (arith, end.0)) _
            (k.invariant.moved.coming k.f (omega arith) l) end.1 l,
      ),
    )

pub loop-f-init : goal.loop-f-init
loop-f-init c =
    let a = c.args in
    let p = a.plan.now in
    let t = c.block_end-finish.result in
    let end = c.block_end-finish.ensures in
    record {
      room = search rules;
      moved = record { passed = λ g l. absurd (omega arith); coming = λ g x y. c.requires.4.each g y };
      marks = blank p.flows a.begin t p.ticks a.marks.now _ (omega (arith, end.0)) end.1 c.requires.1 (c.fill.ensures.after (λ y e. e)) _ c.requires.5;
      values = blank p.flows a.begin t p.ticks a.values.now _ (omega (arith, end.0)) end.1 c.requires.2 (c.fill-2.ensures.after (λ y e. e)) _ c.requires.6;
    }

pub loop-f-preserved : goal.loop-f-preserved
loop-f-preserved c =
    let a = c.args in
    let p = a.plan.now in
    let k = c.loop-f in
    let l = c.loop-f-test.true in
    let pos = p.sound.positive k.f l in
    let at = k.invariant.moved.coming k.f (omega arith) l in
    let end = c.block_end-finish in
    let done = c.put_column.ensures in
    record {
      room = length-set c.loop-f.next c.loop-f.f _ ∙ c.loop-f.invariant.room;
      moved =
          moved_next (omega arith)
          (done.moved ∙ moved_on_lem p.flows p.clocks.now p.ticks a.begin end.result k.f pos (omega (arith, end.ensures.0)) _ at) k.invariant.moved;
      marks = marks_more p.flows p.clocks.now p.ticks a.begin end.result (omega (arith, end.ensures.0)) k.f l pos _ at k.marks _ done.marks k.invariant.marks;
      values =
          values_more p.flows p.clocks.now p.ticks a.begin end.result (omega (arith, end.ensures.0)) k.f l pos _ at a.stored.now k.values _
          done.values k.invariant.values;
    }

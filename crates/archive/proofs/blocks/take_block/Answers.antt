use lib.ListN.{length-set}
use mathlib.Core.Path.{◌∙◌}
use native.Mathlib.Omega.{arith}
use Rattle.archive.proofs.Held.{moved_next, moved_on_lem, place_within}
use Rattle.archive.proofs.Storing.{words_more}
use Rattle.archive.proofs.blocks.take_block.Goals as goal

pub take_column-requires : goal.take_column-requires
take_column-requires c =
    let p = c.args.plan.now in
    let k = c.loop-f in
    let l = c.loop-f-test.true in
    let end = c.block_end-finish.ensures in (
      l,
      end.1,
      c.requires.1,
      omega (
        arith,
        k.auto.stored,
        c.requires.2,
        place_within p.flows p.clocks.now p.ticks c.args.begin c.block_end-finish.result k.f (p.sound.positive k.f l) (omega (arith, end.0)) _
            (k.invariant.moved.coming k.f (omega arith) l) end.1 l,
      ),
    )

pub loop-f-preserved : goal.loop-f-preserved
loop-f-preserved c =
    let a = c.args in
    let p = a.plan.now in
    let k = c.loop-f in
    let l = c.loop-f-test.true in
    let pos = p.sound.positive k.f l in
    let at = k.invariant.moved.coming k.f (omega arith) l in
    let end = c.block_end-finish.ensures in
    let done = c.take_column.ensures in
    record {
      room = length-set c.loop-f.next c.loop-f.f _ ∙ c.loop-f.invariant.room;
      moved =
          moved_next (omega arith)
          (done.moved ∙ moved_on_lem p.flows p.clocks.now p.ticks a.begin c.block_end-finish.result k.f pos (omega (arith, end.0)) _ at)
          k.invariant.moved;
      words =
          words_more p.flows p.clocks.now a.values.now p.ticks a.begin c.block_end-finish.result (omega (arith, end.0)) end.1 k.f l pos _ at
          k.stored _ k.invariant.words done.taken;
    }

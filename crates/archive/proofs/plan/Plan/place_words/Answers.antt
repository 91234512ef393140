use mathlib.Core.Path.{◌∙◌}
use lib.ListN.{length-set}
use Rattle.std.proofs.Common.{rules}
use mathlib.Core.Path.{◌≡◌, sym}
use Prim.Native.Nat.{◌+◌}
use native.Mathlib.Omega.{arith}
use Rattle.archive.specs.Columns.{points}
use Rattle.archive.specs.Private.Steps.{period_in, phase_in}
use Rattle.archive.specs.Private.Plans.{clocks_of}
use Rattle.archive.proofs.Traces.{more_words}
use Rattle.archive.proofs.Held.{words_none, words_next, words_fit, carried_next, first_next}
use Rattle.archive.proofs.plan.Plan.place_words.Goals as goal

pub loop-f-init : goal.loop-f-init
loop-f-init c =
    let p = c.args.self.now in
    record { room = search rules; counted = sym (words_none p.flows p.clocks.now p.ticks); carried = record { each = λ g l. absurd (omega arith) } }

pub overflow_add-w : goal.overflow_add-w
overflow_add-w c =
    let p = c.args.self.now in
    let f = c.loop-f.f in
    let more : c.points-w.result ≡ points (period_in p.clocks.now f) (phase_in p.clocks.now f) p.ticks = cc in
    omega (
      arith,
      words_next p.flows p.clocks.now p.ticks f c.loop-f-test.true,
      more_words (clocks_of p) p.ticks (f + 1) p.flows (omega arith),
      words_fit p.flows p.clocks.now p.ticks p.sound.few p.short,
    )

pub loop-f-preserved : goal.loop-f-preserved
loop-f-preserved c =
    let p = c.args.self.now in
    let k = c.loop-f in
    let more : c.points-w.result ≡ points (period_in p.clocks.now k.f) (phase_in p.clocks.now k.f) p.ticks = cc in
    record {
      room = length-set c.loop-f.next c.loop-f.f _ ∙ c.loop-f.invariant.room;
      counted = omega (arith, words_next p.flows p.clocks.now p.ticks k.f c.loop-f-test.true);
      carried = carried_next (omega arith) (first_next p.flows p.clocks.now p.ticks k.f _ _ c.phase-phase.ensures k.invariant.counted) k.invariant.carried;
    }

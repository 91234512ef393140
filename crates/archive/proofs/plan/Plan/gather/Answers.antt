use mathlib.Core.Path.{◌∙◌}
use native.Mathlib.Omega.{arith}
use Rattle.archive.proofs.Held.{carried_next, first_tick}
use Rattle.archive.proofs.plan.Plan.gather.Goals as goal

pub loop-f-preserved : goal.loop-f-preserved
loop-f-preserved c =
    let p = c.args.self.now in
    let k = c.loop-f in
    record {
      periods = carried_next (omega arith) c.period.ensures.value k.invariant.periods;
      ticks = carried_next (omega arith) (c.phase.ensures ∙ first_tick p.flows p.clocks.now k.f) k.invariant.ticks;
    }

use Rattle.runner.proofs.Underway.{Underway}
use Rattle.std.proofs.Common.{◌-◌, ◌≤◌}
use Rattle.runner.specs.Private.Plans.{plan_rows}
use Rattle.runner.proofs.long.long_ticks.Given as goal

abbrev pub invariant-loop-t : goal.invariant-loop-t
invariant-loop-t l = (l.t ≤ l.ticks)
    × Underway l.plan.n l.t (plan_rows l.plan) l.plan.log.now l.initial.marks l.initial.values l.initial.tallies l.state l.marks l.values l.tallies

abbrev pub decreases-loop-t : goal.decreases-loop-t
decreases-loop-t l = l.ticks - l.t

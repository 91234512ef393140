use Rattle.runner.specs.Private.Placed.{Running}
use Rattle.std.proofs.Common.{ℕ, ◌+◌, List}
use Rattle.runner.specs.Private.Plans.{plan_rows}
use Rattle.runner.proofs.run_ticks.Given as goal

abbrev pub invariant-loop-t : goal.invariant-loop-t
invariant-loop-t l =
    (ms vs : List ℕ) → Running l.plan.n (l.plan.mask + 1) l.from (plan_rows l.plan) l.plan.log.now ms vs l.initial.state l.initial.marks l.initial.values
    → Running l.plan.n (l.plan.mask + 1) l.t (plan_rows l.plan) l.plan.log.now ms vs l.state l.marks l.values

use Rattle.std.proofs.Common.{◌≡◌, length}
use Rattle.table.specs.Rows.{max_flows}
use Rattle.semantics.specs.Runs.{Ticks}
use Rattle.runner.specs.Private.Ready.{Ready}
use Rattle.runner.proofs.Flowing.{Going}
use Rattle.runner.specs.Private.Plans.{plan_rows}
use Rattle.runner.proofs.ticks.flows.Given as goal

abbrev pub invariant-loop-f : goal.invariant-loop-f
invariant-loop-f l =
    (length l.state ≡ max_flows) × ((past : Ticks) → Ready (plan_rows l.plan) past l.t l.at l.initial.state
    → Going (plan_rows l.plan) l.plan.log.now past l.t l.initial.state l.initial.marks l.initial.values l.state l.marks l.values l.f)

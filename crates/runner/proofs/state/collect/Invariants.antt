use Rattle.std.proofs.Common.{◌≡◌, ℕ, ◌+◌, ◌*◌, length}
use Rattle.table.specs.Rows.{max_flows}
use Rattle.semantics.specs.Runs.{Ticks, inputs}
use Rattle.runner.specs.Private.Ready.{AllCarry}
use Rattle.runner.specs.Private.Placed.{Recalls, Near}
use Rattle.runner.proofs.Collecting.{Collecting}
use Rattle.runner.specs.Private.Plans.{plan_rows}
use Rattle.runner.proofs.state.collect.Given as goal

abbrev pub invariant-loop-row : goal.invariant-loop-row
invariant-loop-row l =
    (length l.state ≡ max_flows) × ((past : Ticks) (at : ℕ) → length past ≡ l.t → at ≡ l.t * inputs (plan_rows l.plan) → Recalls (l.plan.mask + 1) l.plan.n l.t past l.marks l.values
    → Near (l.plan.mask + 1) (plan_rows l.plan) past → AllCarry (plan_rows l.plan) l.t past l.initial.state
    → Collecting l.backward (plan_rows l.plan) past l.t l.initial.state l.state l.row-index)

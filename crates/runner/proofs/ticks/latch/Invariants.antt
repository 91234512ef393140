use Rattle.std.proofs.Common.{◌≡◌, ℕ, List, length}
use Rattle.table.specs.Rows.{max_flows}
use Rattle.semantics.specs.Runs.{Tick, Ticks}
use Rattle.runner.specs.Private.Ready.{Wrote, AllFollow}
use Rattle.runner.proofs.Latching.{Latching}
use Rattle.runner.specs.Private.Plans.{plan_rows}
use Rattle.runner.proofs.ticks.latch.Given as goal

abbrev pub invariant-loop-row : goal.invariant-loop-row
invariant-loop-row l =
    (length l.state ≡ max_flows) × ((past : Ticks) (cells : Tick) (ms vs : List ℕ) (t : ℕ) → length cells ≡ l.plan.n
    → Wrote cells ms vs l.marks l.values → AllFollow (plan_rows l.plan) t cells past l.initial.state
    → Latching l.plan.n t l.plan.words.now l.plan.registers.now (plan_rows l.plan) cells past l.initial.state l.state l.row-index)

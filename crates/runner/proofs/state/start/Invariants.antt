use Rattle.runner.proofs.Starting.{Starting}
use Rattle.runner.specs.Private.Ready.{rows_in}
use Rattle.table.specs.Rows.{max_flows}
use Rattle.std.proofs.Common.{◌≡◌, ◌≤◌, length}
use Rattle.runner.proofs.state.start.Given as goal

abbrev pub invariant-loop-f : goal.invariant-loop-f
invariant-loop-f l = (length l.state ≡ max_flows) × (l.j ≤ l.f) × Starting (rows_in l.n l.words) l.state l.f l.j

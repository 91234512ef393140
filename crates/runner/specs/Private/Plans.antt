-- A plan as a run has it ready, and the cells of a tick. For the private functions alone.
use Rattle.std.specs.Prelude.{ℕ, List}
use Rattle.table.specs.Rows.{Row}
use Rattle.semantics.specs.Cells.{Cell}
use Rattle.runner.specs.declared.plan.Plan.{Plan}
use Rattle.runner.specs.declared.cells.Cells.{Cells}
use Rattle.runner.specs.Private.Carried.{cells_in}
use Rattle.runner.specs.Private.Ready.{rows_in}

-- its rows
abbrev pub plan_rows : Plan → List Row
plan_rows p = rows_in p.n p.words.now

-- the cells of the flows below f
abbrev pub cells_of : Cells → ℕ → Cell
cells_of c = cells_in c.marks.now c.values.now c.f

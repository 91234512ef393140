-- The plans A to K, the views and the longest clocks, computed. Assumes nothing.
use mathlib.Core.Path.{refl}
use Rattle.table.specs.Rows.{kinds, ranged, placed, fields_of, row_of, bad_register}
use Rattle.table.specs.Plain.{split, joined, rows_from, table_by}
use Rattle.checker.specs.Rules.{clock_of, clocks_from, clocks_of}
use Rattle.checker.specs.Answers.{clocks_words, checking}
use Rattle.semantics.specs.Cells.{cell_on, latest, first, on_grid}
use Rattle.semantics.specs.Operators.{combined, registered, viewed}
use Rattle.semantics.specs.Runs.{history, inputs, cell_of, flows_from, tick_of, run, cells}
use Rattle.semantics.specs.Answers.{running}
use Rattle.calendar.specs.Cases.{AllCases}

pub all_cases : AllCases
unfolding kinds ranged placed fields_of row_of bad_register split joined rows_from table_by clock_of clocks_from clocks_of clocks_words
    checking cell_on latest first on_grid combined registered viewed history inputs cell_of flows_from tick_of run cells running
all_cases = refl

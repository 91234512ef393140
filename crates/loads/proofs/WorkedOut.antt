-- The page, computed. Assumes nothing.
use mathlib.Core.Path.{refl}
use Rattle.text.specs.Text.{digits_in, decimal, right}
use Rattle.table.specs.Rows.{kinds, ranged, placed, fields_of, row_of, bad_register}
use Rattle.table.specs.Plain.{split, rows_from, table_by}
use Rattle.checker.specs.Rules.{clock_of, clocks_from, clocks_of}
use Rattle.loads.specs.Loads.{lines_from, insert, sorted, line_text, lines_text, total, total_text, page_text, paging}
use Rattle.loads.specs.WorkedOut.{WorkedOut}

pub worked_out : WorkedOut
unfolding digits_in decimal right kinds ranged placed fields_of row_of bad_register split rows_from table_by clock_of clocks_from clocks_of
    lines_from insert sorted line_text lines_text total total_text page_text paging
worked_out = refl

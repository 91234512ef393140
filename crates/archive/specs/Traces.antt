-- The stored words of a trace, flow after flow, and the trace of stored words. Clocks have no conditions here.
use Rattle.std.specs.Prelude.{ℕ, zero, suc, ◌+◌, Bool, true, ◌&&◌, List, [], ◌++◌, drop}
use Rattle.table.specs.Bits.{bit}
use Rattle.table.specs.Plain.{per_flow}
use Rattle.checker.specs.Clocks.{Clock}
use Rattle.checker.specs.Rules.{clock_at}
use Rattle.semantics.specs.Cells.{on_grid}
use Rattle.calendar.specs.Calendar.{cell_at}
use Rattle.archive.specs.Columns.{points, picked, spread, column_fits}

-- flow f's column of the marks or values of m flows
abbrev pub column : ℕ → List ℕ → ℕ → ℕ → ℕ
column m cells f t = cell_at m cells t f

module _ (ks : List Clock) where
  -- how many words the flows before f have
  unfoldable pub words_before : ℕ → ℕ → ℕ
  words_before ticks zero = 0
  words_before ticks (suc f) = words_before ticks f + points (clock_at ks f).period (clock_at ks f).phase ticks

  -- the words of the flows before f, one flow after the other
  unfoldable pub stored_of : ℕ → List ℕ → ℕ → ℕ → List ℕ
  stored_of m values ticks zero = []
  stored_of m values ticks (suc f) = stored_of m values ticks f ++ picked (clock_at ks f).period (clock_at ks f).phase (column m values f) ticks

  -- the columns of the flows before f are as their clocks say
  unfoldable pub trace_fits : ℕ → List ℕ → List ℕ → ℕ → ℕ → Bool
  trace_fits m marks values ticks zero = true
  trace_fits m marks values ticks (suc f) =
      trace_fits m marks values ticks f && column_fits (clock_at ks f).period (clock_at ks f).phase (column m marks f) (column m values f) ticks

  -- flow f's mark and value at tick t in the trace of stored words
  abbrev pub restored_mark : ℕ → ℕ → ℕ
  restored_mark t f = bit (on_grid (clock_at ks f).period (clock_at ks f).phase t)

  abbrev pub restored_value : ℕ → List ℕ → ℕ → ℕ → ℕ
  restored_value ticks words t f = spread (clock_at ks f).period (clock_at ks f).phase (drop (words_before ticks f) words) t

-- the cells of m flows, tick after tick
unfoldable pub cells_of : ℕ → (ℕ → ℕ → ℕ) → ℕ → List ℕ
cells_of m cell zero = []
cells_of m cell (suc t) = cells_of m cell t ++ per_flow (cell t) m

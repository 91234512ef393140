-- What storing and restoring do to each other, and which traces can be stored: of one flow's column, and over what a caller sees.
use Rattle.std.specs.Prelude.{◌≡◌, ℕ, ◌+◌, ◌*◌, ◌-◌, ◌/◌, ◌≤◌, ◌<◌, true, cond, List, ◌++◌, length, take, leb}
use Rattle.table.specs.Bits.{bit}
use Rattle.table.specs.Answers.{success}
use Rattle.semantics.specs.Cells.{on_grid}
use Rattle.semantics.specs.Answers.{max_ticks, marks_after, values_after}
use Rattle.calendar.specs.Calendar.{Accepts, Asked, free}
use Rattle.archive.specs.Columns.{points, picked, spread, column_fits}
use Rattle.archive.specs.Answers.{size_answer, store_answer, stored_after, restoring, cells_answer, marks_back, values_back}

-- ONE FACT OVER THE PERIOD: the column of a flow with period n and phase p
pub record ColumnLaw (n p ticks : ℕ) : Type 0 where
  -- a column that is as its clock says, stored and restored, comes back, whatever words follow its own
  pub column_back :
      (marks values : ℕ → ℕ) (rest : List ℕ) → column_fits n p marks values ticks ≡ true
      → (t : ℕ) → t < ticks → (bit (on_grid n p t) ≡ marks t) × (spread n p (picked n p values ticks ++ rest) t ≡ values t)
  -- words, restored and stored, come back, whatever words follow them
  pub words_back : (words : List ℕ) → points n p ticks ≤ length words → picked n p (spread n p words) ticks ≡ take (points n p ticks) words

pub record RoundTrip : Type 0 where
  -- of each column, and how many words it has
  pub column_law : (n p ticks : ℕ) → ColumnLaw n p ticks
  pub column_size : (n p ticks : ℕ) → 0 < n → points n p ticks ≡ cond (leb ticks p) 0 ((ticks - p - 1) / n + 1)
  -- a trace that is stored, and then restored, comes back
  pub trace_back :
      (m : ℕ) (words : List ℕ) (ticks : ℕ) (marks values old : List ℕ) → (store_answer m words ticks marks values (length old)).number ≡ 0
      → (marks' values' : List ℕ) → length marks' ≡ ticks * m → length values' ≡ ticks * m
      → let stored = stored_after m words ticks marks values old in
      let found = restoring m words ticks (length stored) (length marks') (length values') in
      (cells_answer m ticks found ≡ success (ticks * m)) × (marks_back m ticks found marks' ≡ marks) × (values_back m ticks found stored values' ≡ values)
  -- any words of the right length can be restored, and, stored again, come back
  pub words_back :
      (m : ℕ) (words : List ℕ) (ticks : ℕ) (stored : List ℕ) → size_answer m words ticks ≡ success (length stored)
      → (marks values old : List ℕ) → length marks ≡ ticks * m → length values ≡ ticks * m → length old ≡ length stored
      → let found = restoring m words ticks (length stored) (length marks) (length values) in
      let marks' = marks_back m ticks found marks in
      let values' = values_back m ticks found stored values in
      (cells_answer m ticks found ≡ success (ticks * m))
      × (store_answer m words ticks marks' values' (length old) ≡ success (length stored))
      × (stored_after m words ticks marks' values' old ≡ stored)
  -- the trace that the run leaves of an accepted plan without conditions is one that can be stored, in as many words as are counted
  pub runs_stored :
      (m : ℕ) (words clocks : List ℕ) → Accepts m words clocks → free m words ≡ true
      → (log : List ℕ) (ticks : ℕ) (marks values : List ℕ) → ticks ≤ max_ticks → Asked m words log ticks marks values
      → length marks ≡ ticks * m → length values ≡ ticks * m
      → let size = size_answer m words ticks in
      let marks' = marks_after m words log ticks marks values in
      let values' = values_after m words log ticks marks values in
      (size.number ≡ 0) × (store_answer m words ticks marks' values' size.count ≡ size)

-- Storing and restoring undo each other, and the run's traces can be stored. Assumes nothing.
use mathlib.Core.Path.{◌≡◌, refl, sym, ◌∙◌, ap}
use Prim.Native.Nat.{ℕ, ◌+◌, ◌*◌, ◌≤◌, ◌<◌}
use native.Mathlib.Nat.{mul-le-mul_right}
use native.Mathlib.Omega.{arith}
use mathlib.Core.Bool.{true}
use mathlib.Core.List.{List, ◌++◌, map, append-nil}
use lib.ListN.{length, get_or, drop, length-map, drop_of_length-le}
use lib.Dec.{eqb}
use borrow.Author.Tests.{le-leb, eq-eqb, eqb-true}
use Rattle.table.specs.declared.Answer.{Answer}
use Rattle.table.specs.declared.refusal.Refusal.TheVariants.{WrongLength, OffCalendar}
use Rattle.table.specs.Answers.{Result, good, over, leaves, answer, success}
use Rattle.table.specs.Rows.{Row}
use Rattle.table.specs.Plain.{table_of}
use Rattle.table.proofs.Tests.{and_left, and_right, and_both, unless_good, then_good}
use Rattle.table.proofs.AnswerLaws.{answer_zero}
use Rattle.checker.specs.Clocks.{Clock}
use Rattle.checker.specs.Rules.{clock_at, clocks_of}
use Rattle.checker.proofs.Bounds.{accepted_rows}
use Rattle.semantics.specs.Cells.{Cell, absent, present, mark, value, on_grid}
use Rattle.semantics.specs.Runs.{done, cells}
use Rattle.semantics.specs.Answers.{max_ticks, running, mark_byte, marks_after, values_after}
use Rattle.calendar.specs.Calendar.{Accepts, Asked, free}
use Rattle.calendar.proofs.Shown.{written}
use Rattle.calendar.proofs.SharedCalendar.{asked_runs}
use Rattle.calendar.proofs.PlainRuns.{PlainRun, plain_run}
use Rattle.archive.specs.Columns.{cell_fits}
use Rattle.archive.specs.Traces.{column, words_before, stored_of, trace_fits, restored_mark, restored_value, cells_of}
use Rattle.archive.specs.Answers.{archiving, size_answer, lengths_fit, stored_by, storing, store_answer, stored_after, restored_by, restoring, cells_answer, marks_back, values_back}
use Rattle.archive.specs.RoundTrip.{RoundTrip}
use Rattle.archive.proofs.Grids.{points_formula}
use Rattle.archive.proofs.Columns.{fits_of, column_law}
use Rattle.archive.proofs.Traces.{cells_length, stored_length, trace_fits_of, marks_back_lem, values_back_lem, restored_fit, words_back}

-- lengths that fit
pub record Lengths (m ticks : ℕ) (ks : List Clock) (marks values stored : ℕ) : Type 0 where
  pub marks_size : marks ≡ ticks * m
  pub values_size : values ≡ ticks * m
  pub stored_size : stored ≡ words_before ks ticks m

module _ {m ticks : ℕ} {ks : List Clock} {marks values stored : ℕ} where
  pub lengths : lengths_fit m ticks ks marks values stored ≡ true → Lengths m ticks ks marks values stored
  lengths e =
      let r = and_right (eqb marks (ticks * m)) _ e in
      record {
        marks_size = eqb-true marks (ticks * m) (and_left _ _ e);
        values_size = eqb-true values (ticks * m) (and_left _ _ r);
        stored_size = eqb-true stored (words_before ks ticks m) (and_right (eqb values (ticks * m)) _ r);
      }

  pub lengths_fit_lem : Lengths m ticks ks marks values stored → lengths_fit m ticks ks marks values stored ≡ true
  lengths_fit_lem l = and_both (eq-eqb _ _ l.marks_size) (and_both (eq-eqb _ _ l.values_size) (eq-eqb _ _ l.stored_size))

-- what is as long as the buffer fills it
pub all_over : (xs old : List ℕ) → length old ≤ length xs → over xs old ≡ xs
all_over xs old l = ap (λ (y : List ℕ). xs ++ y) (drop_of_length-le old l) ∙ append-nil xs

module _ (m : ℕ) (words : List ℕ) (ticks : ℕ) where
  -- a trace that is stored
  record Stores (marks values : List ℕ) (room : ℕ) : Type 0 where
    clocks : List Clock
    plan : archiving m words ticks ≡ good clocks
    sizes : Lengths m ticks clocks (length marks) (length values) room
    fits : trace_fits clocks m marks values ticks m ≡ true
    eq : storing m words ticks marks values room ≡ good (stored_of clocks m values ticks m)

  stores : (marks values : List ℕ) (room : ℕ) → (store_answer m words ticks marks values room).number ≡ 0 → Stores marks values room
  unfolding storing stored_by
  stores marks values room e =
      let a = answer_zero length (storing m words ticks marks values room) e in
      let b = then_good (archiving m words ticks) _ a.0 a.1 in
      let c = unless_good (lengths_fit m ticks b.0 (length marks) (length values) room) WrongLength 0 _ a.0 b.2 in
      let d = unless_good (trace_fits b.0 m marks values ticks m) OffCalendar 0 _ a.0 c.1 in
      record { clocks = b.0; plan = b.1; sizes = lengths c.0; fits = d.0; eq = a.1 ∙ sym d.1 }

  store_of : (marks values : List ℕ) (room : ℕ) (ks : List Clock) → archiving m words ticks ≡ good ks → Lengths m ticks ks (length marks) (length values) room
      → trace_fits ks m marks values ticks m ≡ true → storing m words ticks marks values room ≡ good (stored_of ks m values ticks m)
  unfolding storing stored_by
  store_of marks values room ks a b c = rw (a, lengths_fit_lem b, c)

  restore_of : (stored marks values : ℕ) (ks : List Clock) → archiving m words ticks ≡ good ks → Lengths m ticks ks marks values stored
      → restoring m words ticks stored marks values ≡ good ks
  unfolding restoring restored_by
  restore_of stored marks values ks a b = rw (a, lengths_fit_lem b)

  trace_back : (marks values old : List ℕ) → (store_answer m words ticks marks values (length old)).number ≡ 0
      → (marks' values' : List ℕ) → length marks' ≡ ticks * m → length values' ≡ ticks * m
      → let stored = stored_after m words ticks marks values old in
      let found = restoring m words ticks (length stored) (length marks') (length values') in
      (cells_answer m ticks found ≡ success (ticks * m)) × (marks_back m ticks found marks' ≡ marks) × (values_back m ticks found stored values' ≡ values)
  trace_back marks values old e marks' values' lm lv =
      rw (q, r) (
        refl,
        all_over (cells_of m (restored_mark ks) ticks) marks' (omega (arith, cells_length m (restored_mark ks) ticks))
            ∙ marks_back_lem ks m marks values ticks s.fits s.sizes.marks_size,
        all_over (cells_of m (restored_value ks ticks ws) ticks) values' (omega (arith, cells_length m (restored_value ks ticks ws) ticks))
            ∙ values_back_lem ks m marks values ticks s.fits s.sizes.values_size,
      )
    where
      s : Stores marks values (length old)
      s = stores marks values (length old) e

      ks : List Clock
      ks = s.clocks

      ws : List ℕ
      ws = stored_of ks m values ticks m

      size : length ws ≡ words_before ks ticks m
      size = stored_length ks m values ticks m

      q : stored_after m words ticks marks values old ≡ ws
      q = ap (λ (r : Result (List ℕ)). leaves (λ (l : List ℕ). l) r old) s.eq ∙ all_over ws old (omega (arith, s.sizes.stored_size, size))

      r : restoring m words ticks (length ws) (length marks') (length values') ≡ good ks
      r = restore_of (length ws) (length marks') (length values') ks s.plan record { marks_size = lm; values_size = lv; stored_size = size }

  restored_back : (stored : List ℕ) → size_answer m words ticks ≡ success (length stored)
      → (marks values old : List ℕ) → length marks ≡ ticks * m → length values ≡ ticks * m → length old ≡ length stored
      → let found = restoring m words ticks (length stored) (length marks) (length values) in
      let marks' = marks_back m ticks found marks in
      let values' = values_back m ticks found stored values in
      (cells_answer m ticks found ≡ success (ticks * m)) × (store_answer m words ticks marks' values' (length old) ≡ success (length stored))
      × (stored_after m words ticks marks' values' old ≡ stored)
  restored_back stored e marks values old lm lv lo = rw (r, em, ev, q) (refl, refl, all_over stored old (omega arith))
    where
      size : List Clock → ℕ
      size ks = words_before ks ticks m

      plan : (ks' : List Clock) × (archiving m words ticks ≡ good ks')
      plan = answer_zero size (archiving m words ticks) (ap (λ (a : Answer). a.number) e)

      ks : List Clock
      ks = plan.0

      words_are : length stored ≡ words_before ks ticks m
      words_are = ap (λ (a : Answer). a.count) (sym e ∙ ap (answer size) plan.1)

      r : restoring m words ticks (length stored) (length marks) (length values) ≡ good ks
      r = restore_of (length stored) (length marks) (length values) ks plan.1 record { marks_size = lm; values_size = lv; stored_size = words_are }

      ms : List ℕ
      ms = cells_of m (restored_mark ks) ticks

      vs : List ℕ
      vs = cells_of m (restored_value ks ticks stored) ticks

      em : over ms marks ≡ ms
      em = all_over ms marks (omega (arith, cells_length m (restored_mark ks) ticks))

      ev : over vs values ≡ vs
      ev = all_over vs values (omega (arith, cells_length m (restored_value ks ticks stored) ticks))

      q : storing m words ticks ms vs (length old) ≡ good stored
      q =
          store_of ms vs (length old) ks plan.1
          record {
            marks_size = cells_length m (restored_mark ks) ticks;
            values_size = cells_length m (restored_value ks ticks stored) ticks;
            stored_size = lo ∙ words_are;
          }
          (restored_fit ks m stored ticks words_are)
          ∙ ap good (words_back ks m stored ticks words_are)

-- THE RUN'S TRACES
-- a cell fits its own mark
cell_fits_lem : (c : Cell) → cell_fits (mark c) (mark_byte c) (value c) ≡ true
cell_fits_lem absent = refl
cell_fits_lem (present v) = refl

module _ (m : ℕ) (rows : List Row) (ks : List Clock) (log : List ℕ) (ticks : ℕ) (r : PlainRun m rows ks log ticks) (marks values : List ℕ) where
  abbrev ran : List Cell
  ran = cells r.past

  run_fits : trace_fits ks m (over (map mark_byte ran) marks) (over (map value ran) values) ticks m ≡ true
  run_fits = trace_fits_of ks m _ _ ticks m λ f l. fits_of (clock_at ks f).period (clock_at ks f).phase _ _ ticks λ t k. at f l t k
    where
      at : (f : ℕ) → f < m → (t : ℕ) → t < ticks → cell_fits (on_grid (clock_at ks f).period (clock_at ks f).phase t)
          (column m (over (map mark_byte ran) marks) f t) (column m (over (map value ran) values) f t) ≡ true
      at f l t k =
          let i : t * m + f < length ran = omega (arith, mul-le-mul_right m k, r.size) in
          rw (
            written mark_byte ran (drop (length (map mark_byte ran)) marks) (t * m + f) i,
            written value ran (drop (length (map value ran)) values) (t * m + f) i,
            ← r.marked t f k l,
          )
          (cell_fits_lem (get_or ran (t * m + f) absent))

  -- a buffer that the trace fills
  filled : (g : Cell → ℕ) (old : List ℕ) → length old ≡ ticks * m → length (over (map g ran) old) ≡ ticks * m
  filled g old l = ap length (all_over (map g ran) old (omega (arith, length-map ran g, r.size))) ∙ length-map ran g ∙ r.size

module _ (m : ℕ) (words clocks : List ℕ) (accepted : Accepts m words clocks) (u : free m words ≡ true) (log : List ℕ) (ticks : ℕ) (marks values : List ℕ)
    (few : ticks ≤ max_ticks) (asked : Asked m words log ticks marks values) (lm : length marks ≡ ticks * m) (lv : length values ≡ ticks * m) where
  found : (rows' : List Row) × (ks' : List Clock) × (table_of m words ≡ good rows') × (clocks_of rows' ≡ good ks')
  found = let a = accepted_rows m words (length clocks) accepted in (a.0, a.1, a.2, a.3)

  rows : List Row
  rows = found.0

  ks : List Clock
  ks = found.1

  plan : archiving m words ticks ≡ good ks
  unfolding archiving rows ks
  plan = rw (found.2, found.3, le-leb ticks max_ticks few, u)

  r : PlainRun m rows ks log ticks
  unfolding rows ks
  r = plain_run m words rows ks found.2 found.3 u log ticks

  q : running m words log ticks (length marks) (length values) ≡ good (done r.past)
  unfolding rows
  q = asked_runs m words rows log ticks marks values found.2 few asked ∙ ap good r.eq

  abbrev ms : List ℕ
  ms = over (map mark_byte (cells r.past)) marks

  abbrev vs : List ℕ
  vs = over (map value (cells r.past)) values

  z : storing m words ticks ms vs (words_before ks ticks m) ≡ good (stored_of ks m vs ticks m)
  z =
      store_of m words ticks ms vs (words_before ks ticks m) ks plan
      record {
        marks_size = filled m rows ks log ticks r marks values mark_byte marks lm;
        values_size = filled m rows ks log ticks r marks values value values lv;
        stored_size = refl;
      }
      (run_fits m rows ks log ticks r marks values)

  runs_stored :
      let size = size_answer m words ticks in
      let marks' = marks_after m words log ticks marks values in
      let values' = values_after m words log ticks marks values in
      (size.number ≡ 0) × (store_answer m words ticks marks' values' size.count ≡ size)
  runs_stored = rw (plan, q, z) (refl, ap success (stored_length ks m vs ticks m))

-- ALL OF IT
pub round_trip : RoundTrip
round_trip = record {
  column_law = column_law;
  column_size = λ n p ticks pos. points_formula n p pos ticks;
  trace_back = trace_back;
  words_back = restored_back;
  runs_stored = runs_stored;
}

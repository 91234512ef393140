-- The columns of a trace side by side: its cells tick after tick, its words flow after flow. Assumes nothing.
use mathlib.Core.Path.{◌≡◌, refl, sym, ◌∙◌, ap, subst}
use Prim.Native.Nat.{ℕ, zero, suc, ◌+◌, ◌*◌, ◌-◌, ◌/◌, ◌%◌, ◌≤◌, ◌<◌}
use native.Mathlib.Nat.{mul-le-mul_right, suc-mul, zero-mul, div-add-mod', mod-lt, div-lt_iff_lt-mul}
use native.Mathlib.Decide.{dec_lt}
use native.Mathlib.Omega.{arith}
use mathlib.Core.Bool.{true}
use mathlib.Core.List.{List, [], ◌++◌, append_assoc, append-nil}
use lib.ListN.{length, get_or, take, drop, length-append, length-drop, get_or-append}
use lib.Seq.{get_or-append-add, take-add, drop-append-le, drop-append_seam, ext_get_or, take-length}
use Rattle.table.specs.Plain.{per_flow}
use Rattle.table.proofs.PlainRows.{per_length, per_entry}
use Rattle.table.proofs.Tests.{and_left, and_right, and_both}
use Rattle.checker.specs.Clocks.{Clock}
use Rattle.checker.specs.Rules.{clock_at}
use Rattle.semantics.specs.Cells.{on_grid}
use Rattle.calendar.specs.Calendar.{cell_at}
use Rattle.archive.specs.Columns.{points, picked, spread, column_fits}
use Rattle.archive.specs.Traces.{column, words_before, stored_of, trace_fits, restored_mark, restored_value, cells_of}
use Rattle.archive.proofs.Grids.{rising}
use Rattle.archive.proofs.Columns.{picked_length, picked_same, fits_of, restored_fits, column_law}

-- CELLS, tick after tick
pub cells_length : (m : ℕ) (g : ℕ → ℕ → ℕ) (ticks : ℕ) → length (cells_of m g ticks) ≡ ticks * m
unfolding cells_of
cells_length m g zero = sym (zero-mul m)
cells_length m g (suc t) = length-append (cells_of m g t) (per_flow (g t) m) ∙ omega (arith, cells_length m g t, per_length (g t) m, suc-mul t m)

pub cells_at : (m : ℕ) (g : ℕ → ℕ → ℕ) (ticks t f : ℕ) → t < ticks → f < m → cell_at m (cells_of m g ticks) t f ≡ g t f
unfolding cells_of
cells_at m g zero t f l k = absurd (omega arith)
cells_at m g (suc ticks) t f l k = go (cells_at m g ticks t f) (dec_lt t ticks)
  where
    s : length (cells_of m g ticks) ≡ ticks * m
    s = cells_length m g ticks

    go : (t < ticks → f < m → cell_at m (cells_of m g ticks) t f ≡ g t f) → Dec (t < ticks) → get_or (cells_of m g ticks ++ per_flow (g ticks) m) (t * m + f) 0 ≡ g t f
    go h (yes y) =
        let x : suc t * m ≤ ticks * m = mul-le-mul_right m y in
        get_or-append (cells_of m g ticks) (per_flow (g ticks) m) 0 (t * m + f) (omega (arith, suc-mul t m, s)) ∙ h y k
    go h (no y) =
        let q : t ≡ ticks = omega arith in
        let e : t * m + f ≡ length (cells_of m g ticks) + f = omega (arith, s, ap (λ (i : ℕ). i * m) q) in
        ap (λ (i : ℕ). get_or (cells_of m g ticks ++ per_flow (g ticks) m) i 0) e
        ∙ get_or-append-add (cells_of m g ticks) (per_flow (g ticks) m) f 0
        ∙ per_entry (g ticks) 0 m f k
        ∙ ap (λ (i : ℕ). g i f) (sym q)

-- a list of that length with those cells is that list
pub cells_are : (m : ℕ) (g : ℕ → ℕ → ℕ) (ticks : ℕ) (l : List ℕ) → length l ≡ ticks * m
    → ((t f : ℕ) → t < ticks → f < m → cell_at m l t f ≡ g t f) → cells_of m g ticks ≡ l
cells_are m g ticks l e h = ext_get_or 0 (cells_of m g ticks) l (cells_length m g ticks ∙ sym e) (λ i x. at i (omega (arith, cells_length m g ticks)))
  where
    at : (i : ℕ) → i < ticks * m → get_or (cells_of m g ticks) i 0 ≡ get_or l i 0
    at i x = go (dec_lt 0 m)
      where
        go : Dec (0 < m) → get_or (cells_of m g ticks) i 0 ≡ get_or l i 0
        go (no y) = let z : m ≡ 0 = omega arith in absurd (omega (arith, ap (λ (k : ℕ). ticks * k) z))
        go (yes y) =
            let q : i / m * m + i % m ≡ i = div-add-mod' i m in
            let a : i / m < ticks = (div-lt_iff_lt-mul {k = m} {x = i} {y = ticks} y).1 x in
            let b : i % m < m = mod-lt i {m = m} y in
            subst (λ (k : ℕ). get_or (cells_of m g ticks) k 0 ≡ get_or l k 0) q (cells_at m g ticks (i / m) (i % m) a b ∙ sym (h (i / m) (i % m) a b))

-- WORDS, flow after flow
module _ (ks : List Clock) where
  pub stored_length : (m : ℕ) (values : List ℕ) (ticks f : ℕ) → length (stored_of ks m values ticks f) ≡ words_before ks ticks f
  unfolding stored_of words_before
  stored_length m values ticks zero = refl
  stored_length m values ticks (suc f) =
      length-append (stored_of ks m values ticks f) (picked (clock_at ks f).period (clock_at ks f).phase (column m values f) ticks)
      ∙ omega (arith, stored_length m values ticks f, picked_length (clock_at ks f).period (clock_at ks f).phase (column m values f) ticks)

  pub more_words : (ticks f g : ℕ) → f ≤ g → words_before ks ticks f ≤ words_before ks ticks g
  unfolding words_before
  more_words ticks = rising (words_before ks ticks) (λ f. omega arith)

  pub next_words : (ticks f : ℕ) → words_before ks ticks (suc f) ≡ words_before ks ticks f + points (clock_at ks f).period (clock_at ks f).phase ticks
  unfolding words_before
  next_words ticks f = refl

  -- flow f's words stand after those of the flows before it
  own_words : (m : ℕ) (values : List ℕ) (ticks f d : ℕ) → (rest : List ℕ)
      × (drop (words_before ks ticks f) (stored_of ks m values ticks (suc f + d)) ≡ picked (clock_at ks f).period (clock_at ks f).phase (column m values f) ticks ++ rest)
  unfolding stored_of
  own_words m values ticks f zero =
      let q : suc f + 0 ≡ suc f = omega arith in
      let own : List ℕ = picked (clock_at ks f).period (clock_at ks f).phase (column m values f) ticks in (
        [],
        ap (λ (i : ℕ). drop (words_before ks ticks f) (stored_of ks m values ticks i)) q
            ∙ ap (λ (i : ℕ). drop i (stored_of ks m values ticks f ++ own)) (sym (stored_length m values ticks f))
            ∙ drop-append_seam (stored_of ks m values ticks f) own
            ∙ sym (append-nil own),
      )
  own_words m values ticks f (suc d) =
      let q : suc f + suc d ≡ suc (suc f + d) = omega arith in
      let own : List ℕ = picked (clock_at ks f).period (clock_at ks f).phase (column m values f) ticks in
      let last : List ℕ = picked (clock_at ks (suc f + d)).period (clock_at ks (suc f + d)).phase (column m values (suc f + d)) ticks in
      let h = own_words m values ticks f d in
      let l : words_before ks ticks f ≤ length (stored_of ks m values ticks (suc f + d)) =
      omega (arith, stored_length m values ticks (suc f + d), more_words ticks f (suc f + d) (omega arith)) in (
        h.0 ++ last,
        ap (λ (i : ℕ). drop (words_before ks ticks f) (stored_of ks m values ticks i)) q
            ∙ drop-append-le (words_before ks ticks f) (stored_of ks m values ticks (suc f + d)) last l
            ∙ ap (λ (x : List ℕ). x ++ last) h.1
            ∙ append_assoc own h.0 last,
      )

  pub trace_fits_at : (m : ℕ) (marks values : List ℕ) (ticks flows : ℕ) → trace_fits ks m marks values ticks flows ≡ true → (f : ℕ) → f < flows
      → column_fits (clock_at ks f).period (clock_at ks f).phase (column m marks f) (column m values f) ticks ≡ true
  unfolding trace_fits
  trace_fits_at m marks values ticks zero e f l = absurd (omega arith)
  trace_fits_at m marks values ticks (suc flows) e f l =
      elim (dec_lt f flows) [
        | yes y ↦ trace_fits_at m marks values ticks flows (and_left (trace_fits ks m marks values ticks flows) _ e) f y
        | no y ↦ let q : flows ≡ f = omega arith in
            subst (λ (i : ℕ). column_fits (clock_at ks i).period (clock_at ks i).phase (column m marks i) (column m values i) ticks ≡ true) q
            (and_right (trace_fits ks m marks values ticks flows) _ e)
      ]

  pub trace_fits_of : (m : ℕ) (marks values : List ℕ) (ticks flows : ℕ)
      → ((f : ℕ) → f < flows → column_fits (clock_at ks f).period (clock_at ks f).phase (column m marks f) (column m values f) ticks ≡ true)
      → trace_fits ks m marks values ticks flows ≡ true
  unfolding trace_fits
  trace_fits_of m marks values ticks zero h = refl
  trace_fits_of m marks values ticks (suc f) h = and_both (trace_fits_of m marks values ticks f (λ g l. h g (omega arith))) (h f (omega arith))

  -- A TRACE STORED AND RESTORED
  module _ (m : ℕ) (marks values : List ℕ) (ticks : ℕ) (fits : trace_fits ks m marks values ticks m ≡ true) where
    column_back : (f : ℕ) → f < m → (t : ℕ) → t < ticks
        → (restored_mark ks t f ≡ cell_at m marks t f) × (restored_value ks ticks (stored_of ks m values ticks m) t f ≡ cell_at m values t f)
    column_back f l t k =
        let n : ℕ = (clock_at ks f).period in
        let p : ℕ = (clock_at ks f).phase in
        let q : suc f + (m - suc f) ≡ m = omega arith in
        let own = own_words m values ticks f (m - suc f) in
        let e : drop (words_before ks ticks f) (stored_of ks m values ticks m) ≡ picked n p (column m values f) ticks ++ own.0 =
        subst (λ (i : ℕ). drop (words_before ks ticks f) (stored_of ks m values ticks i) ≡ picked n p (column m values f) ticks ++ own.0) q own.1 in
        let b = (column_law n p ticks).column_back (column m marks f) (column m values f) own.0 (trace_fits_at m marks values ticks m fits f l) t k in
        (b.0, ap (λ (x : List ℕ). spread n p x t) e ∙ b.1)

    pub marks_back_lem : length marks ≡ ticks * m → cells_of m (restored_mark ks) ticks ≡ marks
    marks_back_lem e = cells_are m (restored_mark ks) ticks marks e (λ t f l k. sym (column_back f k t l).0)

    pub values_back_lem : length values ≡ ticks * m → cells_of m (restored_value ks ticks (stored_of ks m values ticks m)) ticks ≡ values
    values_back_lem e = cells_are m (restored_value ks ticks (stored_of ks m values ticks m)) ticks values e (λ t f l k. sym (column_back f k t l).1)

  -- WORDS RESTORED AND STORED
  module _ (m : ℕ) (words : List ℕ) (ticks : ℕ) (e : length words ≡ words_before ks ticks m) where
    abbrev marks' : List ℕ
    marks' = cells_of m (restored_mark ks) ticks

    abbrev values' : List ℕ
    values' = cells_of m (restored_value ks ticks words) ticks

    pub restored_fit : trace_fits ks m marks' values' ticks m ≡ true
    restored_fit =
        trace_fits_of m marks' values' ticks m λ f l.
        fits_of (clock_at ks f).period (clock_at ks f).phase (column m marks' f) (column m values' f) ticks λ t k.
        rw (cells_at m (restored_mark ks) ticks t f k l, cells_at m (restored_value ks ticks words) ticks t f k l) (restored_fits (on_grid (clock_at ks f).period (clock_at ks f).phase t) _)

    words_so_far : (f : ℕ) → f ≤ m → stored_of ks m values' ticks f ≡ take (words_before ks ticks f) words
    unfolding stored_of words_before
    words_so_far zero l = refl
    words_so_far (suc f) l =
        let n : ℕ = (clock_at ks f).period in
        let p : ℕ = (clock_at ks f).phase in
        let w : ℕ = words_before ks ticks f in
        let r : words_before ks ticks (suc f) ≤ words_before ks ticks m = more_words ticks (suc f) m l in
        ap (λ (x : List ℕ). x ++ picked n p (column m values' f) ticks) (words_so_far f (omega arith))
        ∙ ap (λ (x : List ℕ). take w words ++ x)
        (picked_same n p (column m values' f) (spread n p (drop w words)) ticks (λ t k. cells_at m (restored_value ks ticks words) ticks t f k (omega arith))
        ∙ (column_law n p ticks).words_back (drop w words) (omega (arith, length-drop w words, next_words ticks f)))
        ∙ sym (take-add w (points n p ticks) words)

    pub words_back : stored_of ks m values' ticks m ≡ words
    words_back = words_so_far m (omega arith) ∙ ap (λ (i : ℕ). take i words) (sym e) ∙ take-length words

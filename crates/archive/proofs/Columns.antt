-- One fact over the period covers every flow: a column that is stored and restored comes back, and so do words. Assumes nothing.
use mathlib.Core.Path.{◌≡◌, refl, sym, ◌∙◌, ap, subst}
use Prim.Native.Nat.{ℕ, zero, suc, ◌+◌, ◌≤◌, ◌<◌}
use native.Mathlib.Decide.{dec_lt}
use native.Mathlib.Numerals.{add-one}
use native.Mathlib.Omega.{arith}
use mathlib.Core.Bool.{Bool, true, false, cond}
use mathlib.Core.List.{List, [], ◌∷◌, ◌++◌, append-nil}
use lib.ListN.{length, get_or, take, length-append, get_or-append}
use lib.Seq.{get_or-append_seam, take-suc}
use lib.Dec.{eqb}
use borrow.Author.Tests.{eqb-true}
use Rattle.table.specs.Bits.{bit}
use Rattle.table.proofs.Tests.{and_left, and_right, and_both, Tried, passed, failed, try}
use Rattle.semantics.specs.Cells.{on_grid}
use Rattle.archive.specs.Columns.{points, picked, spread, cell_fits, column_fits}
use Rattle.archive.specs.RoundTrip.{ColumnLaw}
use Rattle.archive.proofs.Grids.{before_last}

-- a column has as many words as its progression has ticks
one_word : (b : Bool) (v : ℕ) → length (cond b (v ∷ []) []) ≡ bit b
one_word true v = refl
one_word false v = refl

pub picked_length : (n p : ℕ) (column : ℕ → ℕ) (t : ℕ) → length (picked n p column t) ≡ points n p t
unfolding picked points
picked_length n p column zero = refl
picked_length n p column (suc t) = simp length-append (omega (arith, picked_length n p column t, one_word (on_grid n p t) (column t)))

-- the word of a tick
picked_at : (n p : ℕ) (column : ℕ → ℕ) (ticks t : ℕ) → on_grid n p t ≡ true → t < ticks → get_or (picked n p column ticks) (points n p t) 0 ≡ column t
unfolding picked
picked_at n p column zero t e l = absurd (omega arith)
picked_at n p column (suc ticks) t e l = go (picked_at n p column ticks t e) (dec_lt t ticks)
  where
    s : length (picked n p column ticks) ≡ points n p ticks
    s = picked_length n p column ticks

    go : (t < ticks → get_or (picked n p column ticks) (points n p t) 0 ≡ column t) → Dec (t < ticks)
        → get_or (picked n p column ticks ++ cond (on_grid n p ticks) (column ticks ∷ []) []) (points n p t) 0 ≡ column t
    go h (yes y) = get_or-append (picked n p column ticks) _ 0 (points n p t) (omega (arith, s, before_last n p t ticks e y)) ∙ h y
    go h (no y) =
        let q : t ≡ ticks = omega arith in
        subst (λ (i : ℕ). get_or (picked n p column ticks ++ cond (on_grid n p ticks) (column ticks ∷ []) []) (points n p i) 0 ≡ column i) (sym q)
        (rw (subst (λ (i : ℕ). on_grid n p i ≡ true) q e)
        (ap (λ (i : ℕ). get_or (picked n p column ticks ++ (column ticks ∷ [])) i 0) (sym s) ∙ get_or-append_seam (picked n p column ticks) (column ticks) [] 0))

-- columns that are the same at each tick have the same words
pub picked_same : (n p : ℕ) (g h : ℕ → ℕ) (ticks : ℕ) → ((t : ℕ) → t < ticks → g t ≡ h t) → picked n p g ticks ≡ picked n p h ticks
unfolding picked
picked_same n p g h zero s = refl
picked_same n p g h (suc t) s = rw (picked_same n p g h t (λ i l. s i (omega arith)), s t (omega arith))

-- a column fits when each cell does
pub fits_at_lem : (n p : ℕ) (marks values : ℕ → ℕ) (ticks : ℕ) → column_fits n p marks values ticks ≡ true → (t : ℕ) → t < ticks
    → cell_fits (on_grid n p t) (marks t) (values t) ≡ true
unfolding column_fits
fits_at_lem n p marks values zero e t l = absurd (omega arith)
fits_at_lem n p marks values (suc ticks) e t l =
    elim (dec_lt t ticks) [
      | yes y ↦ fits_at_lem n p marks values ticks (and_left (column_fits n p marks values ticks) _ e) t y
      | no y ↦ subst (λ (i : ℕ). cell_fits (on_grid n p i) (marks i) (values i) ≡ true) (omega arith) (and_right (column_fits n p marks values ticks) _ e)
    ]

pub fits_of : (n p : ℕ) (marks values : ℕ → ℕ) (ticks : ℕ) → ((t : ℕ) → t < ticks → cell_fits (on_grid n p t) (marks t) (values t) ≡ true)
    → column_fits n p marks values ticks ≡ true
unfolding column_fits
fits_of n p marks values zero h = refl
fits_of n p marks values (suc t) h = and_both (fits_of n p marks values t (λ i l. h i (omega arith))) (h t (omega arith))

-- a cell that fits has the mark of its clock, and the value 0 where that is absent
pub fitting_mark : (b : Bool) (mark value : ℕ) → cell_fits b mark value ≡ true → bit b ≡ mark
fitting_mark true mark value e = sym (eqb-true mark 1 e)
fitting_mark false mark value e = sym (eqb-true mark 0 (and_left _ _ e))

fitting_value : (mark value : ℕ) → cell_fits false mark value ≡ true → 0 ≡ value
fitting_value mark value e = sym (eqb-true value 0 (and_right (eqb mark 0) _ e))

pub restored_fits : (b : Bool) (value : ℕ) → cell_fits b (bit b) (cond b value 0) ≡ true
restored_fits true value = refl
restored_fits false value = refl

words_kept : (n p ticks : ℕ) (words : List ℕ) → points n p ticks ≤ length words → picked n p (spread n p words) ticks ≡ take (points n p ticks) words
unfolding picked points
words_kept n p zero words h = refl
words_kept n p (suc t) words h = go (words_kept n p t words) (try (on_grid n p t))
  where
    go : (points n p t ≤ length words → picked n p (spread n p words) t ≡ take (points n p t) words) → Tried (on_grid n p t)
        → picked n p (spread n p words) t ++ cond (on_grid n p t) (spread n p words t ∷ []) [] ≡ take (points n p t + bit (on_grid n p t)) words
    go so_far (passed x) =
        let m : points n p t + 1 ≤ length words = rw x at h in
        let l : points n p t < length words = omega arith in
        rw (x, add-one (points n p t), take-suc words (points n p t) 0 l, so_far (omega arith))
    go so_far (failed x) =
        let l : points n p t + 0 ≤ length words = rw x at h in
        let q : points n p t + 0 ≡ points n p t = omega arith in
        rw (x, q, so_far (omega arith)) (append-nil _)

-- ONE FACT OVER THE PERIOD, in both directions
module _ (n p ticks : ℕ) where
  value_back : (marks values : ℕ → ℕ) (rest : List ℕ) → column_fits n p marks values ticks ≡ true → (t : ℕ) → t < ticks → Tried (on_grid n p t)
      → spread n p (picked n p values ticks ++ rest) t ≡ values t
  value_back marks values rest e t l (passed x) =
      rw x
      (get_or-append (picked n p values ticks) rest 0 (points n p t) (omega (arith, picked_length n p values ticks, before_last n p t ticks x l))
      ∙ picked_at n p values ticks t x l)
  value_back marks values rest e t l (failed x) = rw x (fitting_value (marks t) (values t) (rw x at (fits_at_lem n p marks values ticks e t l)))

  pub column_law : ColumnLaw n p ticks
  column_law =
      record {
        column_back = λ marks values rest e t l. (
          fitting_mark (on_grid n p t) (marks t) (values t) (fits_at_lem n p marks values ticks e t l),
          value_back marks values rest e t l (try (on_grid n p t)),
        );
        words_back = words_kept n p ticks;
      }

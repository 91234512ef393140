-- The words that the rows carry into tick 0. Assumes nothing.
use Rattle.std.proofs.Common.{◌≡◌, ℕ, zero, suc, ◌+◌, ◌<◌, ◌≤◌, Bool, true, false, eqb, List, [], ◌∷◌, length, set, take, sym}
use Rattle.std.proofs.Common.{refl, ap, ◌∙◌, subst, ⊎_elim, eq-or-lt_of_le, add-one, arith, take_all, get_or-set_other, get_or-set_same}
use native.Mathlib.Nat.{zero-mod}
use lib.Seq.{take-length}
use Rattle.table.specs.Plain.{row_words}
use Rattle.table.specs.Rows.{Row, Words, input, constant, combine, register, faster, slower, later, head, tail, sample, merge, unrated, view}
use Rattle.table.specs.Bits.{bit}
use Rattle.table.specs.Tables.{Fits, row_at}
use Rattle.table.proofs.Tables.{Table}
use Rattle.semantics.specs.Cells.{count, latest, first}
use Rattle.semantics.specs.Runs.{history, inputs, is_input}
use Rattle.runner.specs.declared.carried.Held.{Held}
use Rattle.runner.specs.Private.Carried.{held_at, start_word, start_of}
use Rattle.runner.specs.Private.Ready.{unseen, never, waiting, Carries, AllCarry}
use Rattle.runner.proofs.Tabled.{words_at, made_of, words_read, RowAt, row_of_lem}
use Rattle.runner.proofs.Histories.{timed_starts}

row_starts : (m f : ℕ) (rows : List Row) (row : Row) → Fits m f row → Carries rows f row 0 (history []) (start_of row (inputs (take f rows)))
unfolding Carries start_word history latest count first
row_starts m f rows (input n p) l = (timed_starts n p, refl)
row_starts m f rows (constant v n p) l = timed_starts n p
row_starts m f rows (combine op a b) l = tt
row_starts m f rows (register v b a) l = refl
row_starts m f rows (faster a k g) l = unseen (λ j. refl) refl refl
row_starts m f rows (slower a k) l = (zero-mod k, l.1.from)
row_starts m f rows (later a d) l = tt
row_starts m f rows (head a v s) l = never refl refl
row_starts m f rows (tail a) l = refl
row_starts m f rows (sample u a c) l = tt
row_starts m f rows (merge c a b) l = tt
row_starts m f rows unrated l = tt
row_starts m f rows (view u a c v) l = waiting refl refl refl refl

-- the inputs before a row
inputs_step : (rows : List Row) (f : ℕ) → f < length rows → inputs (take (suc f) rows) ≡ inputs (take f rows) + bit (is_input (row_at rows f))
unfolding inputs
inputs_step [] f l = absurd (omega arith)
inputs_step (r ∷ rows) zero l = omega arith
inputs_step (r ∷ rows) (suc f) l = omega (arith, inputs_step rows f (omega arith))

pub bit_low : (b : Bool) → bit b ≤ 1
bit_low true = omega arith
bit_low false = omega arith

pub inputs_few : (rows : List Row) (f : ℕ) → inputs (take f rows) ≤ f
unfolding inputs
inputs_few rows zero = omega arith
inputs_few [] (suc f) = omega arith
inputs_few (r ∷ rows) (suc f) = omega (arith, bit_low (is_input r), inputs_few rows f)

pub inputs_all : (rows : List Row) → inputs rows ≤ length rows
inputs_all rows = subst (λ (l : List Row). inputs l ≤ length rows) (take-length rows) (inputs_few rows (length rows))

pub record Starting (rows : List Row) (s : List Held) (f j : ℕ) : Type 0 where
  pub before : j ≡ inputs (take f rows)
  pub set : (g : ℕ) → g < f → Carries rows g (row_at rows g) 0 (history []) (held_at s g)

module _ (n : ℕ) (words : List ℕ) (rows : List Row) (T : Table n words rows) where
  pub starts : (s : List Held) → Starting rows s 0 0
  unfolding inputs
  starts s = record { before = refl; set = λ g l. absurd (omega arith) }

  pub goes_on :
      (s : List Held) (h : Held) (w : Words) (f j j' : ℕ) → f < n → f < length s → Starting rows s f j → w ≡ row_words words f
      → h ≡ start_of (made_of w) j → j' ≡ j + bit (eqb w.kind 0) → Starting rows (set s f h) (f + 1) j'
  goes_on s h w f j j' l room S is q e =
      let u : w ≡ words_at words f = words_read words f w is in
      let r : RowAt n words (row_at rows f) f = row_of_lem n words rows T f l in
      let known : bit (eqb w.kind 0) ≡ bit (is_input (row_at rows f)) = ap (λ (i : Words). bit (eqb i.kind 0)) u ∙ ap bit (sym r.is_input_lem) in
      record {
        before = omega (arith, e ∙ ap (λ (i : ℕ). j + i) known, S.before, ap (λ (i : ℕ). inputs (take i rows)) (add-one f), inputs_step rows f (omega (arith, T.size)));
        set = λ g b. ⊎_elim (same r g) (below g) (eq-or-lt_of_le {n = g} {m = f} (omega arith));
      }
    where
      below : (g : ℕ) → g < f → Carries rows g (row_at rows g) 0 (history []) (held_at (set s f h) g)
      below g b = subst (λ (w : Held). Carries rows g (row_at rows g) 0 (history []) w) (sym (get_or-set_other s f g h _ (λ u. omega arith))) (S.set g b)

      same : RowAt n words (row_at rows f) f → (g : ℕ) → g ≡ f → Carries rows g (row_at rows g) 0 (history []) (held_at (set s f h) g)
      same r g u =
          subst (λ (i : ℕ). Carries rows i (row_at rows i) 0 (history []) (held_at (set s f h) i)) (sym u)
          (subst (λ (w : Held). Carries rows f (row_at rows f) 0 (history []) w)
          (sym
          (get_or-set_same s f h _ room
          ∙ q
          ∙ ap (λ (i : Words). start_of (made_of i) j) (words_read words f w is)
          ∙ ap (λ (i : Row). start_of i j) r.made
          ∙ ap (λ (i : ℕ). start_of (row_at rows f) i) S.before))
          (row_starts n f rows (row_at rows f) r.fits))

  pub ends : (s : List Held) (f j : ℕ) → n ≤ f → f ≤ n → Starting rows s f j → (j ≡ inputs rows) × AllCarry rows 0 [] s
  unfolding AllCarry
  ends s f j l k S =
      (S.before ∙ ap inputs (take_all f rows (omega (arith, T.size))), λ g b. S.set g (omega (arith, T.size)))

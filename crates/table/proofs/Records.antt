-- What a row's test says, and the test and the packed size of the rows from one on. Assumes nothing.
use mathlib.Core.Path.{◌≡◌, refl, sym, ◌∙◌, ap}
use mathlib.Core.Bool.{Bool, true, false, ◌&&◌}
use mathlib.Core.List.{List, [], ◌∷◌}
use mathlib.Core.Option.{Option, none, some}
use Prim.Native.Nat.{ℕ, suc, ◌+◌, ◌*◌, ◌-◌, ◌<◌, ◌≤◌}
use native.Mathlib.Numerals.{add-one}
use native.Mathlib.Omega.{arith}
use lib.Dec.{ltb}
use lib.ListN.{length, drop, get_elem?, length-append}
use lib.Seq.{drop-drop}
use Rattle.table.specs.declared.refusal.Refusal.{Refusal}
use Rattle.table.specs.declared.refusal.Refusal.TheVariants.{UnknownKind, OutOfRange, Misplaced}
use Rattle.table.specs.Answers.{Result, good, refused, unless, then, answer, numbered}
use Rattle.table.specs.Rows.{Row, ranged, placed, Kind, kinds, Words, each, known, fields_of, row_of, row_by, takes, row_size, kind_count}
use Rattle.table.specs.Plain.{split, rows_from, table_by, row_words}
use Rattle.table.specs.Packed.{rows_bits}
use Rattle.table.specs.Lengths.{row_length}
use Rattle.table.specs.Private.Codes.{verdict}
use Rattle.table.proofs.AnswerLaws.{no_zero}
use Rattle.table.proofs.Tests.{Tried, passed, failed, try}
use Rattle.table.proofs.Tables.{made_by}
use Rattle.table.proofs.Accepting.{kind_is, unknown}
use Rattle.table.proofs.Lengths.{row_size_lem}

-- a result, or a refusal that names f
pub data Outcome {A : Type 0} (f : ℕ) : Result A → Type 0 where
  fine : (a : A) → Outcome f (good a)
  stopped : (why : Refusal) → Outcome f (refused why f)

unless_outcome : {A : Type 0} (b : Bool) (why : Refusal) (f : ℕ) (r : Result A) → Outcome f r → Outcome f (unless b why f r)
unless_outcome true why f r o = o
unless_outcome false why f r o = stopped why

pub row_outcome : (m f : ℕ) (w : Words) → Outcome f (row_of m f w)
unfolding row_of fields_of
row_outcome m f w = go (get_elem? kinds w.kind)
  where
    fields : (k : Kind) → Outcome f (fields_of m f k w)
    fields k =
        unless_outcome (each ranged k w) OutOfRange f _
        (unless_outcome (each (placed m f) k w) Misplaced f _ (fine (k.make w.one w.two w.three)))

    go : (o : Option Kind) → Outcome f (then (known f o) λ k. fields_of m f k w)
    go none = stopped UnknownKind
    go (some k) = fields k

by_outcome : (rated : Bool) (m f : ℕ) (w : Words) → Outcome f (row_by rated m f w)
by_outcome rated m f w = unless_outcome (takes rated w.kind) UnknownKind f _ (row_outcome m f w)

-- a row that is accepted has a known kind
pub kind_lt : (rated : Bool) (m f : ℕ) (w : Words) → verdict (row_by rated m f w) ≡ 0 → w.kind < kind_count
kind_lt rated m f w e = go (try (takes rated w.kind && ltb w.kind kind_count))
  where
    go : Tried (takes rated w.kind && ltb w.kind kind_count) → w.kind < kind_count
    go (passed p) = kind_is rated m f w p
    go (failed p) = absurd (omega (arith, unknown rated m f w p))

-- the answer counts the same rows, whatever they are
pub answer_then : {A B : Type 0} (n : ℕ) (r : Result A) (g : A → B) → answer (λ x. n) (then r λ a. good (g a)) ≡ answer (λ x. n) r
answer_then n (good a) g = refl
answer_then n (refused why f) g = refl

pub rows_next : (rated : Bool) (m f : ℕ) (w : Words) (ws : List Words) → verdict (row_by rated m f w) ≡ 0
    → answer (λ rs. m) (rows_from rated m f (w ∷ ws)) ≡ answer (λ rs. m) (rows_from rated m (suc f) ws)
unfolding rows_from
rows_next rated m f w ws e = go (row_by rated m f w) (by_outcome rated m f w) e
  where
    go : (r : Result Row) → Outcome f r → verdict r ≡ 0
        → answer (λ rs. m) (then r λ x. then (rows_from rated m (suc f) ws) λ rs. good (x ∷ rs)) ≡ answer (λ rs. m) (rows_from rated m (suc f) ws)
    go r (fine x) e = answer_then m (rows_from rated m (suc f) ws) (λ rs. x ∷ rs)
    go r (stopped why) e = absurd (no_zero why e)

pub rows_stop : (rated : Bool) (m f n : ℕ) (w : Words) (ws : List Words) → n ≡ verdict (row_by rated m f w) → (n ≡ 0 → ⊥)
    → answer (λ rs. m) (rows_from rated m f (w ∷ ws)) ≡ numbered n f
unfolding rows_from
rows_stop rated m f n w ws e h = go (row_by rated m f w) (by_outcome rated m f w) e
  where
    go : (r : Result Row) → Outcome f r → n ≡ verdict r
        → answer (λ rs. m) (then r λ x. then (rows_from rated m (suc f) ws) λ rs. good (x ∷ rs)) ≡ numbered n f
    go r (fine x) e = absurd (h e)
    go r (stopped why) e = rw e

-- the rows from f on are row f and those after it
pub split_next : (m f : ℕ) (words : List ℕ) → f < m
    → split (m - f) (drop (row_size * f) words) ≡ row_words words f ∷ split (m - suc f) (drop (row_size * suc f) words)
unfolding split
split_next m f words h =
    let p : m - f ≡ suc (m - suc f) = omega arith in
    let q : row_size * f + row_size ≡ row_size * suc f = omega arith in
    ap (λ (n : ℕ). split n (drop (row_size * f) words)) p
    ∙ ap (λ (l : List ℕ). row_words words f ∷ split (m - suc f) l) (drop-drop row_size (row_size * f) words ∙ ap (λ (n : ℕ). drop n words) q)

-- One row of a survey: row f of m, with the words w.
module _ (rated : Bool) (m f : ℕ) (words : List ℕ) (w : Words) (is : w ≡ row_words words f) (below : f < m) where
  pub survey_stop : (n : ℕ) → n ≡ verdict (row_by rated m f w) → (n ≡ 0 → ⊥)
      → answer (λ rs. m) (rows_from rated m f (split (m - f) (drop (row_size * f) words))) ≡ numbered n f
  survey_stop n e h =
      rw (split_next m f words below) (rows_stop rated m f n (row_words words f) _ (e ∙ ap (λ (x : Words). verdict (row_by rated m f x)) is) h)

  pub survey_next : verdict (row_by rated m f w) ≡ 0
      → answer (λ rs. m) (rows_from rated m (f + 1) (split (m - (f + 1)) (drop (row_size * (f + 1)) words)))
      ≡ answer (λ rs. m) (rows_from rated m f (split (m - f) (drop (row_size * f) words)))
  survey_next e =
      rw (add-one, split_next m f words below)
      (sym (rows_next rated m f (row_words words f) _ (ap (λ (x : Words). verdict (row_by rated m f x)) (sym is) ∙ e)))

  pub size_next : verdict (row_by rated m f w) ≡ 0
      → length (rows_bits (split (m - f) (drop (row_size * f) words))) ≡ row_length w.kind + length (rows_bits (split (m - (f + 1)) (drop (row_size * (f + 1)) words)))
  unfolding rows_bits
  size_next e =
      rw (add-one, split_next m f words below, ← is, length-append, row_size_lem w (kind_lt rated m f w e))

-- after the last row nothing is left
pub split_end : (m f : ℕ) (words : List ℕ) → f ≤ m → m ≤ f → split (m - f) (drop (row_size * f) words) ≡ []
unfolding split
split_end m f words p q = let e : m - f ≡ 0 = omega arith in rw e

-- an accepted table has as many rows as it says
pub rows_counted : (rated : Bool) (m : ℕ) (words : List ℕ) → answer length (table_by rated m words) ≡ answer (λ rs. m) (table_by rated m words)
rows_counted rated m words = go (table_by rated m words) refl
  where
    go : (r : Result (List Row)) → table_by rated m words ≡ r → answer length r ≡ answer (λ rs. m) r
    go (good rows) e = rw (made_by rated m words rows e).size
    go (refused why f) e = refl

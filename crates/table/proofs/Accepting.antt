-- The test of a row by bounds: one comparison from below and one from above a field. Assumes nothing.
use mathlib.Core.Path.{◌≡◌, refl, sym, ◌∙◌, ap}
use mathlib.Core.Bool.{Bool, true, false, ◌&&◌, false≢true}
use Prim.Native.Nat.{ℕ, suc, ◌<◌, ◌≤◌}
use native.Mathlib.Omega.{arith}
use lib.Dec.{leb, ltb, eqb}
use borrow.Author.Tests.{leb-true, ltb-true, ltb-false, le-leb, lt-ltb, le-ltb, eq-eqb, ne_eqb}
use Rattle.table.specs.declared.refusal.Refusal.TheVariants.{UnknownKind, OutOfRange, Misplaced}
use Rattle.table.specs.Answers.{number, unless}
use Rattle.table.specs.Rows.{Field, operand, source, copies, period, ticks, value, unused, ranged, placed, each}
use Rattle.table.specs.Rows.{Kind, kind_at, kind_count, unrated_kind, max_flows, Words, row_of, row_by, takes, fields_of}
use Rattle.table.specs.Private.Codes.{bounds, bounded, barred_kind, verdict}
use Rattle.table.proofs.Tests.{and_left, and_right, and_both, and-true, and_false, same_test}
use Rattle.table.proofs.Entries.{kind_there, kind_gone}

-- ---- one field

below_or_at : (x n : ℕ) → ltb x (suc n) ≡ leb x n
below_or_at x n =
    same_test (ltb x (suc n)) (leb x n)
    (λ e. le-leb x n (let h : x < suc n = ltb-true x (suc n) e in omega arith))
    (λ e. lt-ltb x (suc n) (let h : x ≤ n = leb-true x n e in omega arith))

-- what is below a bound up to n + 1 is at most n; behind another test
below_both : (a : Bool) (x b n : ℕ) → b ≤ suc n → (a && ltb x b) ≡ ((a && leb x n) && ltb x b)
below_both false x b n l = refl
below_both true x b n l =
    same_test (ltb x b) (leb x n && ltb x b)
    (λ e. and_both (le-leb x n (let h : x < b = ltb-true x b e in omega arith)) e)
    (λ e. and_right (leb x n) (ltb x b) e)

-- the bounds of no row and no count hold the range alone
pub bounded_range : (t : Field) (x : ℕ) → bounded (bounds max_flows max_flows) t x ≡ ranged t x
unfolding ranged
bounded_range operand x = ap (λ (b : Bool). leb 0 x && b) (below_or_at x 63)
bounded_range source x = ap (λ (b : Bool). leb 0 x && b) (below_or_at x 63)
bounded_range copies x = ap (λ (b : Bool). leb 1 x && b) (below_or_at x 63)
bounded_range period x = ap (λ (b : Bool). leb 1 x && b) (below_or_at x 4095)
bounded_range ticks x = ap (λ (b : Bool). leb 0 x && b) (below_or_at x 4095)
bounded_range value x = ap (λ (b : Bool). leb 0 x && b) (below_or_at x 4294967295)
bounded_range unused x = ap (λ (b : Bool). leb 0 x && b) (below_or_at x 0)

-- the bounds of row f of m hold range and place
bounded_both : (m f : ℕ) → m ≤ max_flows → f ≤ max_flows → (t : Field) (x : ℕ) → bounded (bounds m f) t x ≡ (ranged t x && placed m f t x)
unfolding ranged placed
bounded_both m f hm hf operand x = below_both (leb 0 x) x f 63 hf
bounded_both m f hm hf source x = below_both (leb 0 x) x m 63 hm
bounded_both m f hm hf copies x = bounded_range copies x ∙ sym (and-true _)
bounded_both m f hm hf period x = bounded_range period x ∙ sym (and-true _)
bounded_both m f hm hf ticks x = bounded_range ticks x ∙ sym (and-true _)
bounded_both m f hm hf value x = bounded_range value x ∙ sym (and-true _)
bounded_both m f hm hf unused x = bounded_range unused x ∙ sym (and-true _)

-- ---- the three fields

pub each_same : (p q : Field → ℕ → Bool) → ((t : Field) (x : ℕ) → p t x ≡ q t x) → (k : Kind) (w : Words) → each p k w ≡ each q k w
each_same p q h k w = rw (h k.one w.one, h k.two w.two, h k.three w.three)

and_six : (a b c d e f : Bool) → ((a && b) && ((c && d) && (e && f))) ≡ ((a && (c && e)) && (b && (d && f)))
and_six false b c d e f = refl
and_six true false c d e f = sym (and_false (c && e))
and_six true true false d e f = refl
and_six true true true d false f = and_false d
and_six true true true d true f = refl

each_both : (p q : Field → ℕ → Bool) (k : Kind) (w : Words) → each (λ t x. p t x && q t x) k w ≡ (each p k w && each q k w)
each_both p q k w =
    and_six (p k.one w.one) (q k.one w.one) (p k.two w.two) (q k.two w.two) (p k.three w.three) (q k.three w.three)

-- ---- the row

-- a number that is not 0 by its test
pub not_zero : (n v : ℕ) → n ≡ v → eqb v 0 ≡ false → n ≡ 0 → ⊥
not_zero n v e t z = false≢true (sym t ∙ ap (λ (x : ℕ). eqb x 0) (sym e ∙ z))

-- a row of a kind that is not known, where the rates are asked for or are not
pub unknown : (rated : Bool) (m f : ℕ) (w : Words) → (takes rated w.kind && ltb w.kind kind_count) ≡ false → verdict (row_by rated m f w) ≡ number UnknownKind
unfolding row_of
unknown rated m f w e = go (takes rated w.kind) e
  where
    go : (b : Bool) → (b && ltb w.kind kind_count) ≡ false → verdict (unless b UnknownKind f (row_of m f w)) ≡ number UnknownKind
    go true e = rw (kind_gone w.kind (ltb-false w.kind kind_count e))
    go false e = refl

-- the kind that is barred, and any other
pub barred_not : (rated : Bool) (k : ℕ) → k ≡ barred_kind rated → (takes rated k && ltb k kind_count) ≡ false
barred_not true k e = rw (eq-eqb k unrated_kind e)
barred_not false k e = le-ltb k kind_count (omega arith)

pub known_by : (rated : Bool) (k : ℕ) → (k ≡ barred_kind rated → ⊥) → (takes rated k && ltb k kind_count) ≡ ltb k kind_count
known_by true k n = rw (ne_eqb k unrated_kind n)
known_by false k n = refl

-- and of one that is
module _ (rated : Bool) (m f : ℕ) (w : Words) (is : (takes rated w.kind && ltb w.kind kind_count) ≡ true) where
  pub kind_is : w.kind < kind_count
  kind_is = ltb-true w.kind kind_count (and_right (takes rated w.kind) _ is)

  there : takes rated w.kind ≡ true
  there = and_left (takes rated w.kind) _ is

  pub out : each ranged (kind_at w.kind) w ≡ false → verdict (row_by rated m f w) ≡ number OutOfRange
  unfolding row_of fields_of
  out e = rw (there, kind_there w.kind kind_is, e)

  off : each ranged (kind_at w.kind) w ≡ true → each (placed m f) (kind_at w.kind) w ≡ false → verdict (row_by rated m f w) ≡ number Misplaced
  unfolding row_of fields_of
  off e o = rw (there, kind_there w.kind kind_is, e, o)

  fine : each ranged (kind_at w.kind) w ≡ true → each (placed m f) (kind_at w.kind) w ≡ true → verdict (row_by rated m f w) ≡ 0
  unfolding row_of fields_of
  fine e o = rw (there, kind_there w.kind kind_is, e, o)

  passes : (each ranged (kind_at w.kind) w && each (placed m f) (kind_at w.kind) w) ≡ eqb (verdict (row_by rated m f w)) 0
  passes = go (each ranged (kind_at w.kind) w) (each (placed m f) (kind_at w.kind) w) refl refl
    where
      go : (a b : Bool) → each ranged (kind_at w.kind) w ≡ a → each (placed m f) (kind_at w.kind) w ≡ b → (a && b) ≡ eqb (verdict (row_by rated m f w)) 0
      go true true e o = rw (fine e o)
      go true false e o = rw (off e o)
      go false b e o = rw (out e)

  -- the bounds of the row and the count tell whether it is accepted
  pub by_bounds : m ≤ max_flows → f ≤ max_flows → each (bounded (bounds m f)) (kind_at w.kind) w ≡ eqb (verdict (row_by rated m f w)) 0
  by_bounds hm hf =
      each_same (bounded (bounds m f)) (λ t x. ranged t x && placed m f t x) (bounded_both m f hm hf) (kind_at w.kind) w
      ∙ each_both ranged (placed m f) (kind_at w.kind) w ∙ passes

  -- a row in range that is not accepted has a field out of place
  pub must_be_off : each ranged (kind_at w.kind) w ≡ true → eqb (verdict (row_by rated m f w)) 0 ≡ false → number Misplaced ≡ verdict (row_by rated m f w)
  must_be_off e n = go (each (placed m f) (kind_at w.kind) w) refl
    where
      go : (b : Bool) → each (placed m f) (kind_at w.kind) w ≡ b → number Misplaced ≡ verdict (row_by rated m f w)
      go true o = absurd (false≢true (sym n ∙ ap (λ (x : ℕ). eqb x 0) (fine e o)))
      go false o = sym (off e o)

-- A rule of a table, proved at all of its entries by one test that antt computes. Assumes nothing.
use mathlib.Core.Path.{◌≡◌, refl, sym, subst, ◌∙◌, ap}
use mathlib.Core.Bool.{Bool, true, ◌&&◌}
use mathlib.Core.List.{List, [], ◌∷◌}
use mathlib.Core.Option.{none, some, none-ne-some, some-injective}
use Prim.Native.Nat.{ℕ, zero, suc, ◌+◌, ◌-◌, ◌*◌, ◌/◌, ◌%◌, ◌^◌, ◌<◌, ◌≤◌}
use native.Mathlib.Decide.{dec_lt}
use native.Mathlib.Omega.{arith}
use lib.Dec.{eqb, leb}
use lib.ListN.{length, get_or, get_elem?, get_or-eq_default}
use borrow.Author.Tests.{eqb-true, leb-true}
use Rattle.table.specs.Rows.{Field, operand, source, copies, period, ticks, value, unused, least, width, Kind, kinds, no_kind, kind_count, kind_at}
use Rattle.table.specs.Links.{is_flow}
use Rattle.table.specs.Private.Codes.{code, field_list, leasts, mosts, widths, kind_fields}
use Rattle.table.proofs.Tests.{and_left, and_right}

module _ {A : Type 0} where
  -- the test passes at each entry and its place, counted from i
  abbrev pub every : (ℕ → A → Bool) → ℕ → List A → Bool
  every test i [] = true
  every test i (x ∷ xs) = test i x && every test (suc i) xs

  from : (test : ℕ → A → Bool) (xs : List A) (d : A) (i : ℕ) → every test i xs ≡ true → (k : ℕ) → k < length xs → test (i + k) (get_or xs k d) ≡ true
  from test [] d i t k h = absurd (omega arith)
  from test (x ∷ xs) d i t zero h =
      let e : i ≡ i + 0 = omega arith in
      subst (λ (n : ℕ). test n x ≡ true) e (and_left (test i x) (every test (suc i) xs) t)
  from test (x ∷ xs) d i t (suc k) h =
      let e : suc i + k ≡ i + suc k = omega arith in
      subst (λ (n : ℕ). test n (get_or xs k d) ≡ true) e (from test xs d (suc i) (and_right (test i x) (every test (suc i) xs) t) k (omega arith))

  pub at : (test : ℕ → A → Bool) (xs : List A) (d : A) → every test 0 xs ≡ true → (k : ℕ) → k < length xs → test k (get_or xs k d) ≡ true
  at test xs d t k h = let e : 0 + k ≡ k = omega arith in subst (λ (n : ℕ). test n (get_or xs k d) ≡ true) e (from test xs d 0 t k h)

  -- an entry that is there, and one that is not
  pub there : (l : List A) (d : A) (n : ℕ) → n < length l → get_elem? l n ≡ some (get_or l n d)
  there [] d n h = absurd (omega arith)
  there (x ∷ l) d zero h = refl
  there (x ∷ l) d (suc n) h = there l d n (omega arith)

  pub gone : (l : List A) (n : ℕ) → length l ≤ n → get_elem? l n ≡ none
  gone [] n h = refl
  gone (x ∷ l) zero h = absurd (omega arith)
  gone (x ∷ l) (suc n) h = gone l n (omega arith)

-- a table of numbers that are those of a function
pub tabled : (f : ℕ → ℕ) (xs : List ℕ) → every (λ k x. eqb x (f k)) 0 xs ≡ true → (k : ℕ) → k < length xs → get_or xs k 0 ≡ f k
tabled f xs t k h = eqb-true (get_or xs k 0) (f k) (at (λ k x. eqb x (f k)) xs 0 t k h)

-- The lists by field.
pub least_at : (t : Field) → get_or leasts (code t) 0 ≡ least t
least_at operand = refl
least_at source = refl
least_at copies = refl
least_at period = refl
least_at ticks = refl
least_at value = refl
least_at unused = refl

pub width_at : (t : Field) → get_or widths (code t) 0 ≡ width t
width_at operand = refl
width_at source = refl
width_at copies = refl
width_at period = refl
width_at ticks = refl
width_at value = refl
width_at unused = refl

-- the greatest number has ones in all bits of its field
pub most_at : (n : ℕ) → n < 7 → get_or mosts n 0 ≡ 2 ^ get_or widths n 0 - 1
most_at n h = tabled (λ n. 2 ^ get_or widths n 0 - 1) mosts refl n h

-- no field is wider than 32 bits
pub narrow : (n : ℕ) → n < 7 → get_or widths n 0 ≤ 32
narrow n h = leb-true (get_or widths n 0) 32 (at (λ k x. leb x 32) widths 0 refl n h)

pub code_lt : (t : Field) → code t < 7
code_lt operand = omega arith
code_lt source = omega arith
code_lt copies = omega arith
code_lt period = omega arith
code_lt ticks = omega arith
code_lt value = omega arith
code_lt unused = omega arith

-- operands and sources have the lowest two numbers
pub flow_code : (t : Field) → leb (code t) 1 ≡ is_flow t
flow_code operand = refl
flow_code source = refl
flow_code copies = refl
flow_code period = refl
flow_code ticks = refl
flow_code value = refl
flow_code unused = refl

-- a field by its number
module _ (t : Field) (i : ℕ) (is : i ≡ code t) where
  pub field_lt : i < 7
  field_lt = rw is (code_lt t)

  pub field_width : (l : List ℕ) → l ≡ widths → get_or l i 0 ≡ width t
  field_width l e = rw (e, is) (width_at t)

-- The list by kind: the numbers of the three fields as digits to base 8.
abbrev field_code : ℕ → ℕ → ℕ
field_code k place = code (get_or (field_list (kind_at k)) place unused)

abbrev line : ℕ → ℕ → Bool
line k x = eqb (x % 8) (field_code k 0) && (eqb (x / 8 % 8) (field_code k 1) && eqb (x / 64 % 8) (field_code k 2))

fields_right : every line 0 kind_fields ≡ true
unfolding kinds
fields_right = refl

pub kinds_size : length kinds ≡ kind_count
unfolding kinds
kinds_size = refl

module _ (k : ℕ) (known : k < kind_count) where
  pub field_is : (place : ℕ) → place < 3 → get_or kind_fields k 0 / 2 ^ (3 * place) % 8 ≡ field_code k place
  field_is place within = go place within (at line kind_fields 0 fields_right k known)
    where
      x : ℕ
      x = get_or kind_fields k 0

      go : (place : ℕ) → place < 3 → line k x ≡ true → x / 2 ^ (3 * place) % 8 ≡ field_code k place
      go zero w l = let e : x / 1 ≡ x = omega arith in ap (λ (n : ℕ). n % 8) e ∙ eqb-true _ _ (and_left (eqb (x % 8) (field_code k 0)) _ l)
      go (suc zero) w l = eqb-true _ _ (and_left (eqb (x / 8 % 8) (field_code k 1)) _ (and_right (eqb (x % 8) (field_code k 0)) _ l))
      go (suc (suc zero)) w l = eqb-true _ _ (and_right (eqb (x / 8 % 8) (field_code k 1)) _ (and_right (eqb (x % 8) (field_code k 0)) _ l))
      go (suc (suc (suc place))) w l = absurd (omega arith)

-- a kind that is known, and one that is not
pub kind_there : (n : ℕ) → n < kind_count → get_elem? kinds n ≡ some (kind_at n)
kind_there n h = there kinds _ n (omega (arith, kinds_size))

pub kind_gone : (n : ℕ) → kind_count ≤ n → get_elem? kinds n ≡ none
kind_gone n h = gone kinds n (omega (arith, kinds_size))

pub kind_known : (n : ℕ) (k : Kind) → get_elem? kinds n ≡ some k → (n < kind_count) × (kind_at n ≡ k)
kind_known n k e =
    elim (dec_lt n kind_count) [
      | yes h ↦ (h, some-injective (kind_at n) k (sym (kind_there n h) ∙ e))
      | no h ↦ absurd (none-ne-some k (sym (kind_gone n (omega arith)) ∙ e))
    ]

pub kind_none : (n : ℕ) → kind_count ≤ n → kind_at n ≡ no_kind
kind_none n h = get_or-eq_default kinds no_kind {n = n} (omega (arith, kinds_size))

-- a number from 7 on that is none of 7 to 18 is no kind
pub no_kind_lem : (n : ℕ) → 7 ≤ n → (n ≡ 7 → ⊥) → (n ≡ 8 → ⊥) → (n ≡ 9 → ⊥) → (n ≡ 10 → ⊥) → (n ≡ 11 → ⊥) → (n ≡ 12 → ⊥)
    → (n ≡ 13 → ⊥) → (n ≡ 14 → ⊥) → (n ≡ 15 → ⊥) → (n ≡ 16 → ⊥) → (n ≡ 17 → ⊥) → (n ≡ 18 → ⊥) → kind_count ≤ n
no_kind_lem n l a b c d e f = rest (above_twelve n l a b c d e f)
  where
    above_twelve : (n : ℕ) → 7 ≤ n → (n ≡ 7 → ⊥) → (n ≡ 8 → ⊥) → (n ≡ 9 → ⊥) → (n ≡ 10 → ⊥) → (n ≡ 11 → ⊥) → (n ≡ 12 → ⊥) → 13 ≤ n
    above_twelve n l a b c d e f = omega arith

    rest : 13 ≤ n → (n ≡ 13 → ⊥) → (n ≡ 14 → ⊥) → (n ≡ 15 → ⊥) → (n ≡ 16 → ⊥) → (n ≡ 17 → ⊥) → (n ≡ 18 → ⊥) → kind_count ≤ n
    rest l a b c d e f = omega arith

-- a test of each kind and its number, computed over the whole list
pub kind_test : (test : ℕ → Kind → Bool) → every test 0 kinds ≡ true → (n : ℕ) → n < kind_count → test n (kind_at n) ≡ true
kind_test test t n h = at test kinds _ t n (omega (arith, kinds_size))

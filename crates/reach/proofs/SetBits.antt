-- Sets of flows as numbers, bit by bit. Assumes nothing.
use mathlib.Core.Path.{◌≡◌, refl, sym, ◌∙◌, ap, ap₂}
use Prim.Native.Nat.{ℕ, zero, suc, ◌+◌, ◌-◌, ◌*◌, ◌/◌, ◌%◌, ◌^◌, ◌≤◌, ◌<◌, max}
use native.Mathlib.Decide.{dec_lt}
use native.Mathlib.Nat.{one-mul, zero-mul, pow-suc, div-eq_of_lt}
use native.Mathlib.Omega.{arith}
use mathlib.Core.Bool.{Bool, true, false, cond, ◌&&◌, ◌||◌, false≢true}
use lib.Bits.{bit_or, or_step, or_shr, or_block, or_shifted, or_shifted_r, or_self, or_zero_l, or_zero_r}
use lib.Bits.{bit_and, and_block, and_self, and_zero_l, and_zero_r}
use lib.Dec.{eqb}
use lib.Pow.{pow-lt, pow-add, pow_pos, shl-shr}
use borrow.Author.Tests.{lt-ltb, le-ltb, eq-eqb, ne_eqb}
use Rattle.table.specs.Bits.{bit}
use Rattle.table.specs.Rows.{max_flows}
use Rattle.table.proofs.Tests.{and-true, and_false, or_false}
use Rattle.reach.specs.Sets.{Flows, set_of, has, with_flow}

-- ---- bits

pub has_bit : (x g : ℕ) → g < max_flows → has x g ≡ eqb (x / 2 ^ g % 2) 1
unfolding has
has_bit x g l = rw (lt-ltb g max_flows l)

pub has_far : (x g : ℕ) → max_flows ≤ g → has x g ≡ false
unfolding has
has_far x g l = rw (le-ltb g max_flows l)

one_of_two : (a b : ℕ) → a < 2 → b < 2 → eqb (max a b) 1 ≡ (eqb a 1 || eqb b 1)
one_of_two zero zero p q = refl
one_of_two zero (suc zero) p q = refl
one_of_two (suc zero) zero p q = refl
one_of_two (suc zero) (suc zero) p q = refl
one_of_two zero (suc (suc b)) p q = absurd (omega arith)
one_of_two (suc zero) (suc (suc b)) p q = absurd (omega arith)
one_of_two (suc (suc a)) b p q = absurd (omega arith)

or_low : (a b : ℕ) → bit_or a b % 2 ≡ max (a % 2) (b % 2)
or_low a b = ap (λ (i : ℕ). i % 2) (or_step a b) ∙ omega arith

-- a flow is in one of two sets
has_or : (x y g : ℕ) → g < max_flows → has (bit_or x y) g ≡ (has x g || has y g)
has_or x y g l =
    has_bit (bit_or x y) g l ∙ ap (λ (i : ℕ). eqb (i % 2) 1) (or_shr x y g) ∙ ap (λ (i : ℕ). eqb i 1) (or_low (x / 2 ^ g) (y / 2 ^ g))
    ∙ one_of_two (x / 2 ^ g % 2) (y / 2 ^ g % 2) (omega arith) (omega arith) ∙ ap₂ ◌||◌ (sym (has_bit x g l)) (sym (has_bit y g l))

-- the set of one flow
has_one : (f g : ℕ) → g < max_flows → has (2 ^ f) g ≡ eqb f g
has_one f g l =
    has_bit (2 ^ f) g l
    ∙ elim (dec_lt f g) [
      | yes x ↦ (let z : 2 ^ f / 2 ^ g ≡ 0 = div-eq_of_lt (pow-lt x) in
          rw (z, ne_eqb f g (λ (e : f ≡ g). omega arith)))
      | no x ↦ elim (dec_lt g f) [
        | yes y ↦ (let e : f ≡ suc (f - suc g) + g = omega arith in
            let z : 2 ^ f / 2 ^ g ≡ 2 ^ (f - suc g) * 2 =
            ap (λ (i : ℕ). 2 ^ i / 2 ^ g) e ∙ ap (λ (i : ℕ). i / 2 ^ g) (pow-add 2 (suc (f - suc g)) g) ∙ shl-shr (2 ^ suc (f - suc g)) g ∙ pow-suc 2 (f - suc g) in
            let w : 2 ^ f / 2 ^ g % 2 ≡ 0 = ap (λ (i : ℕ). i % 2) z ∙ omega arith in
            rw (w, ne_eqb f g (λ (e : f ≡ g). omega arith)))
        | no y ↦ (let e : f ≡ g = omega arith in
            let z : 2 ^ f / 2 ^ g ≡ 1 = ap (λ (i : ℕ). 2 ^ i / 2 ^ g) e ∙ ap (λ (i : ℕ). i / 2 ^ g) (sym (one-mul (2 ^ g))) ∙ shl-shr 1 g in
            rw (z, eq-eqb f g e))
      ]
    ]

has_none : (g : ℕ) → g < max_flows → has 0 g ≡ false
has_none g l = has_bit 0 g l ∙ (let z : 0 / 2 ^ g ≡ 0 = div-eq_of_lt (pow_pos g) in rw z)

-- ---- the number of a set

set_lt : (s : Flows) (n : ℕ) → set_of s n < 2 ^ n
unfolding set_of
set_lt s zero = omega arith
set_lt s (suc n) = more (s n) (set_lt s n)
  where
    more : (b : Bool) → set_of s n < 2 ^ n → bit b * 2 ^ n + set_of s n < 2 ^ suc n
    more true l = omega (arith, pow-suc 2 n, l)
    more false l = omega (arith, pow-suc 2 n, l)

pub set_same : (s t : Flows) (n : ℕ) → ((g : ℕ) → g < n → s g ≡ t g) → set_of s n ≡ set_of t n
unfolding set_of
set_same s t zero h = refl
set_same s t (suc n) h = ap₂ (λ (b : Bool) (x : ℕ). bit b * 2 ^ n + x) (h n (omega arith)) (set_same s t n (λ g l. h g (omega arith)))

-- no flow
pub set_none : (s : Flows) (n : ℕ) → ((g : ℕ) → g < n → s g ≡ false) → set_of s n ≡ 0
unfolding set_of
set_none s zero h = refl
set_none s (suc n) h = rw (h n (omega arith)) (omega (arith, zero-mul (2 ^ n), set_none s n (λ g l. h g (omega arith))))

-- one flow
pub set_one : (f n : ℕ) → f < n → set_of (eqb f) n ≡ 2 ^ f
unfolding set_of
set_one f zero l = absurd (omega arith)
set_one f (suc n) l =
    elim (dec_lt f n) [
      | yes x ↦ rw (ne_eqb f n (λ (e : f ≡ n). omega arith)) (omega (arith, zero-mul (2 ^ n), set_one f n x))
      | no x ↦ (let e : f ≡ n = omega arith in
          rw (eq-eqb f n e) (omega (arith, one-mul (2 ^ n), set_none (eqb f) n (λ g y. ne_eqb f g (λ (z : f ≡ g). omega arith)), ap (λ (i : ℕ). 2 ^ i) e)))
    ]

-- the flow behind them with them
pub set_next : (s : Flows) (n : ℕ) → n < max_flows → with_flow (set_of s n) (s n) n ≡ set_of s (suc n)
unfolding set_of
set_next s n l = rw (lt-ltb n max_flows l) (go (s n))
  where
    go : (b : Bool) → cond (b && true) (bit_or (set_of s n) (2 ^ n)) (set_of s n) ≡ bit b * 2 ^ n + set_of s n
    go true = ap (bit_or (set_of s n)) (sym (one-mul (2 ^ n))) ∙ or_shifted_r 1 n (set_of s n) (set_lt s n)
    go false = omega (arith, zero-mul (2 ^ n))

-- two sets, by an operation on their bits
Blockwise : (ℕ → ℕ → ℕ) → Type 0
Blockwise op = (k a b r s : ℕ) → r < 2 ^ k → s < 2 ^ k → op (a * 2 ^ k + r) (b * 2 ^ k + s) ≡ op a b * 2 ^ k + op r s

module _ (op : ℕ → ℕ → ℕ) (by : Bool → Bool → Bool) (none : op 0 0 ≡ 0) (block : Blockwise op) (bits : (a b : Bool) → op (bit a) (bit b) ≡ bit (by a b)) (s t : Flows) where
  set_by : (n : ℕ) → op (set_of s n) (set_of t n) ≡ set_of (λ g. by (s g) (t g)) n
  unfolding set_of Blockwise
  set_by zero = none
  set_by (suc n) =
      block n (bit (s n)) (bit (t n)) (set_of s n) (set_of t n) (set_lt s n) (set_lt t n)
      ∙ ap₂ (λ (x y : ℕ). x * 2 ^ n + y) (bits (s n) (t n)) (set_by n)

bit_or_lem : (a b : Bool) → bit_or (bit a) (bit b) ≡ bit (a || b)
bit_or_lem true true = or_self 1
bit_or_lem true false = or_zero_r 1
bit_or_lem false b = or_zero_l (bit b)

pub set_or : (s t : Flows) (n : ℕ) → bit_or (set_of s n) (set_of t n) ≡ set_of (λ g. s g || t g) n
unfolding Blockwise
set_or = set_by bit_or ◌||◌ (or_zero_l 0) or_block bit_or_lem

bit_and_lem : (a b : Bool) → bit_and (bit a) (bit b) ≡ bit (a && b)
bit_and_lem true true = and_self 1
bit_and_lem true false = and_zero_r 1
bit_and_lem false b = and_zero_l (bit b)

pub set_and : (s t : Flows) (n : ℕ) → bit_and (set_of s n) (set_of t n) ≡ set_of (λ g. s g && t g) n
unfolding Blockwise
set_and = set_by bit_and ◌&&◌ (and_zero_l 0) and_block bit_and_lem

-- its bits
module _ (s : Flows) (g : ℕ) (l : g < max_flows) where
  one_more : (n : ℕ) (b : Bool) → has (bit b * 2 ^ n + set_of s n) g ≡ ((b && eqb n g) || has (set_of s n) g)
  one_more n b =
      ap (λ (i : ℕ). has i g) (sym (or_shifted (bit b) n (set_of s n) (set_lt s n))) ∙ has_or (bit b * 2 ^ n) (set_of s n) g l
      ∙ ap (λ (c : Bool). c || has (set_of s n) g) (alone b)
    where
      alone : (b : Bool) → has (bit b * 2 ^ n) g ≡ (b && eqb n g)
      alone true = ap (λ (i : ℕ). has i g) (one-mul (2 ^ n)) ∙ has_one n g l
      alone false = ap (λ (i : ℕ). has i g) (zero-mul (2 ^ n)) ∙ has_none g l

  set_out : (n : ℕ) → n ≤ g → has (set_of s n) g ≡ false
  unfolding set_of
  set_out zero x = has_none g l
  set_out (suc n) x = one_more n (s n) ∙ rw (ne_eqb n g (λ (e : n ≡ g). omega arith), and_false (s n)) (set_out n (omega arith))

  set_in : (n : ℕ) → g < n → has (set_of s n) g ≡ s g
  unfolding set_of
  set_in zero x = absurd (omega arith)
  set_in (suc n) x =
      one_more n (s n)
      ∙ elim (dec_lt g n) [
        | yes y ↦ rw (ne_eqb n g (λ (e : n ≡ g). omega arith), and_false (s n)) (set_in n y)
        | no y ↦ (let e : n ≡ g = omega arith in
            rw (eq-eqb n g e, and-true (s n), set_out n (omega arith)) (or_false (s n) ∙ ap s e))
      ]

-- a flow of the plan is in the set's number where it is in the set, and no other is
pub set_has : (s : Flows) (n g : ℕ) → n ≤ max_flows → g < n → has (set_of s n) g ≡ s g
set_has s n g few l = set_in s g (omega arith) n l

set_has_none : (s : Flows) (n g : ℕ) → n ≤ g → has (set_of s n) g ≡ false
set_has_none s n g l = elim (dec_lt g max_flows) [ yes x ↦ set_out s g x n l | no x ↦ has_far (set_of s n) g (omega arith) ]

-- so what is in the number is a flow of the plan, and in the set
pub set_member : (s : Flows) (n g : ℕ) → n ≤ max_flows → has (set_of s n) g ≡ true → (g < n) × (s g ≡ true)
set_member s n g few e =
    elim (dec_lt g n) [
      | yes x ↦ (x, sym (set_has s n g few x) ∙ e)
      | no x ↦ absurd (false≢true (sym (set_has_none s n g (omega arith)) ∙ e))
    ]

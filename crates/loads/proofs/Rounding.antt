-- The rounding is to the nearest whole, of two that are equally near to the even one, and there is exactly one such number. Assumes nothing.
use mathlib.Core.Path.{◌≡◌, sym}
use Prim.Native.Nat.{ℕ, zero, suc, ◌+◌, ◌*◌, ◌/◌, ◌%◌, ◌≤◌, ◌<◌}
use native.Mathlib.Nat.{div-add-mod', mod-lt, mul-le-mul_left, mul-le-mul_right}
use native.Mathlib.Omega.{arith}
use lib.Dec.{ltb, eqb}
use borrow.Author.Tests.{ltb-true, ltb-false, eqb-true, eqb-false}
use Rattle.table.proofs.Tests.{Tried, passed, failed, try}
use Rattle.loads.specs.Loads.{distance, Nearest, rounded, max_time, max_load}

-- two multiples of p are p apart at least, by way of x too
apart : (x p r s : ℕ) → (s ≡ r → ⊥) → p ≤ distance x (r * p) + distance x (s * p)
apart x p r s n = go (try (ltb s r)) (try (ltb r s))
  where
    go : Tried (ltb s r) → Tried (ltb r s) → p ≤ distance x (r * p) + distance x (s * p)
    go (passed e) t = let l : s + 1 ≤ r = omega (arith, ltb-true s r e) in omega (arith, mul-le-mul_right p l)
    go (failed d) (passed e) = let l : r + 1 ≤ s = omega (arith, ltb-true r s e) in omega (arith, mul-le-mul_right p l)
    go (failed d) (failed e) = absurd (n (omega (arith, ltb-false s r d, ltb-false r s e)))

-- so what is no more than half of p away is nearest, if it is even where it is just half
within : (x p r : ℕ) → 2 * distance x (r * p) ≤ p → (2 * distance x (r * p) ≡ p → r % 2 ≡ 0) → Nearest x p r
within x p r l even =
    record {
      nearest = λ s. go s (try (eqb s r));
      even = λ s n e. even (omega (arith, apart x p r s n));
    }
  where
    go : (s : ℕ) → Tried (eqb s r) → distance x (r * p) ≤ distance x (s * p)
    go s (passed e) = rw (eqb-true s r e) (omega arith)
    go s (failed e) = omega (arith, apart x p r s (eqb-false s r e))

-- the two ways of the rounding: less than half is left, or half of an even whole part; more, or half of an odd one
pub down : (x p : ℕ) → 2 * (x % p) + x / p % 2 ≤ p → Nearest x p (x / p)
down x p h = within x p (x / p) (omega (arith, div-add-mod' x p)) (λ e. omega (arith, div-add-mod' x p))

pub up : (x p : ℕ) → 1 ≤ p → p < 2 * (x % p) + x / p % 2 → Nearest x p (x / p + 1)
up x p o h =
    let w = div-add-mod' x p in
    let m = mod-lt x o in
    within x p (x / p + 1) (omega (arith, w, m)) (λ e. omega (arith, w, m))

pub rounded_nearest : (x p : ℕ) → 1 ≤ p → Nearest x p (rounded x p)
rounded_nearest x zero o = absurd (omega arith)
rounded_nearest x (suc n) o = go (try (ltb (suc n) (2 * (x % suc n) + x / suc n % 2)))
  where
    go : Tried (ltb (suc n) (2 * (x % suc n) + x / suc n % 2)) → Nearest x (suc n) (rounded x (suc n))
    go (passed e) = rw e (up x (suc n) o (ltb-true _ _ e))
    go (failed e) = rw e (down x (suc n) (ltb-false _ _ e))

-- Of two that are as near, and so both even, the number between them would be nearer.
not_above : (x p r s : ℕ) → 1 ≤ p → Nearest x p r → Nearest x p s → r ≤ s
not_above x p r s o a b = go (try (ltb s r))
  where
    go : Tried (ltb s r) → r ≤ s
    go (failed e) = ltb-false s r e
    go (passed e) =
        let below : s < r = ltb-true s r e in
        let near : distance x (r * p) ≡ distance x (s * p) = omega (arith, a.nearest s, b.nearest r) in
        let r_even : r % 2 ≡ 0 = a.even s (λ i. omega arith) (sym near) in
        let s_even : s % 2 ≡ 0 = b.even r (λ i. omega arith) near in
        let l : s + 2 ≤ r = omega arith in
        absurd (omega (arith, mul-le-mul_right p l, b.nearest (s + 1)))

-- so a nearest whole is the rounding
pub nearest_rounded : (x p r : ℕ) → 1 ≤ p → Nearest x p r → r ≡ rounded x p
nearest_rounded x p r o n =
    let m = rounded_nearest x p o in
    omega (arith, not_above x p r (rounded x p) o n m, not_above x p (rounded x p) r o m n)

-- the nearest whole is no larger than what was divided
nearest_bound : (x p r : ℕ) → 1 ≤ p → Nearest x p r → r ≤ x
nearest_bound x p r o n = go (try (ltb x r))
  where
    go : Tried (ltb x r) → r ≤ x
    go (failed e) = ltb-false x r e
    go (passed e) =
        let l : x + 1 ≤ r = omega (arith, ltb-true x r e) in
        absurd (omega (arith, mul-le-mul_right p l, mul-le-mul_left x o, n.nearest x))

pub rounded_bound : (x p : ℕ) → rounded x p ≤ x
rounded_bound x zero = omega arith
rounded_bound x (suc n) = nearest_bound x (suc n) (rounded x (suc n)) (omega arith) (rounded_nearest x (suc n) (omega arith))

-- the two ways of a load: each is the rounding, and no more than the largest load
pub load_down : (w p : ℕ) → 1 ≤ p → 2 * (1000 * w % p) + 1000 * w / p % 2 ≤ p → 1000 * w / p ≡ rounded (1000 * w) p
load_down w p o h = nearest_rounded (1000 * w) p _ o (down (1000 * w) p h)

pub load_up : (w p : ℕ) → 1 ≤ p → p < 2 * (1000 * w % p) + 1000 * w / p % 2 → 1000 * w / p + 1 ≡ rounded (1000 * w) p
load_up w p o h = nearest_rounded (1000 * w) p _ o (up (1000 * w) p o h)

pub load_bound : (w p r : ℕ) → w ≤ max_time → r ≡ rounded (1000 * w) p → r ≤ max_load
load_bound w p r m e = omega (arith, e, rounded_bound (1000 * w) p)

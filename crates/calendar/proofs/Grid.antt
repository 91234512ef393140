-- Progressions: phase plus whole periods. Assumes nothing.
use mathlib.Core.Path.{◌≡◌, refl, sym, ◌∙◌}
use Prim.Native.Nat.{ℕ, zero, suc, ◌+◌, ◌*◌, ◌-◌, ◌%◌, ◌/◌, ◌≤◌, ◌<◌}
use native.Mathlib.Nat.{mul-mod_left, div-add-mod', mul-le-mul_right}
use native.Mathlib.Decide.{dec_lt}
use native.Mathlib.Omega.{arith}
use mathlib.Core.Bool.{true, false, true≢false, false≢true}
use lib.Dec.{leb}
use borrow.Author.Tests.{leb-true, eqb-true, le-leb, eq-eqb}
use Rattle.table.proofs.Tests.{and_left, and_right, and_both, Tried, passed, failed, try}
use Rattle.semantics.specs.Cells.{on_grid}

-- t is phase plus whole periods
pub record On (n p t : ℕ) : Type 0 where
  pub whole : ℕ
  pub eq : t ≡ p + whole * n

pub on_of : (n p t : ℕ) → on_grid n p t ≡ true → On n p t
unfolding on_grid
on_of n p t e =
    let l : p ≤ t = leb-true p t (and_left _ _ e) in
    let z : (t - p) % n ≡ 0 = eqb-true _ _ (and_right (leb p t) _ e) in
    let d : (t - p) / n * n + (t - p) % n ≡ t - p = div-add-mod' (t - p) n in
    record { whole = (t - p) / n; eq = omega arith }

on_at : (n p j : ℕ) → on_grid n p (p + j * n) ≡ true
unfolding on_grid
on_at n p j =
    let e : p + j * n - p ≡ j * n = omega arith in
    and_both (le-leb p (p + j * n) (omega arith)) (eq-eqb ((p + j * n - p) % n) 0 (rw e (mul-mod_left j n)))

pub of_on : {n p t : ℕ} → On n p t → on_grid n p t ≡ true
of_on {n} {p} {t} o = rw o.eq (on_at n p o.whole)

pub off_grid : {n p t : ℕ} → on_grid n p t ≡ false → On n p t → ⊥
off_grid e o = false≢true (sym e ∙ of_on o)

not_on : (n p t : ℕ) → (On n p t → ⊥) → on_grid n p t ≡ false
not_on n p t f = go (try (on_grid n p t))
  where
    go : Tried (on_grid n p t) → on_grid n p t ≡ false
    go (passed e) = absurd (f (on_of n p t e))
    go (failed e) = e

-- between one point of a progression and the next there is none
pub next : (n i j r : ℕ) → i * n ≡ j * n + suc r → suc r ≤ n → suc r ≡ n
next n i j r e l = elim (dec_lt j i) [ yes h ↦ omega (arith, mul-le-mul_right n h) | no h ↦ absurd (low (omega arith)) ]
  where
    low : i ≤ j → ⊥
    low h = omega (arith, mul-le-mul_right n h)

-- the first two points, and none before or between them
pub at_first : (n p t : ℕ) → t ≡ p → on_grid n p t ≡ true
at_first n p t e = of_on record { whole = 0; eq = omega arith }

pub at_second : (n p t : ℕ) → t ≡ p + n → on_grid n p t ≡ true
at_second n p t e = of_on record { whole = 1; eq = omega arith }

pub before_first : (n p t : ℕ) → t < p → on_grid n p t ≡ false
before_first n p t l = not_on n p t (λ o. omega (arith, o.eq))

before_second : (n p t : ℕ) → p < t → t < p + n → on_grid n p t ≡ false
before_second n p t l m = not_on n p t (λ o. go o.whole o.eq)
  where
    go : (j : ℕ) → t ≡ p + j * n → ⊥
    go zero e = omega arith
    go (suc j) e = omega arith

-- Two progressions that differ part by the second point of one of them.
pub record Parted (n p m q limit : ℕ) : Type 0 where
  pub tick : ℕ
  pub soon : tick ≤ 2 * limit
  pub apart : on_grid n p tick ≡ on_grid m q tick → ⊥

parted_at : {n p m q limit : ℕ} (t : ℕ) → t ≤ 2 * limit → on_grid n p t ≡ true → on_grid m q t ≡ false → Parted n p m q limit
parted_at t l x y = record { tick = t; soon = l; apart = λ e. true≢false (sym x ∙ e ∙ y) }

swap : {n p m q limit : ℕ} → Parted m q n p limit → Parted n p m q limit
swap s = record { tick = s.tick; soon = s.soon; apart = λ e. s.apart (sym e) }

pub parted : (n p m q limit : ℕ) → n ≤ limit → p ≤ limit → m ≤ limit → q ≤ limit → 0 < n → 0 < m → (n ≡ m → p ≡ q → ⊥) → Parted n p m q limit
parted n p m q limit nl pl ml ql np mp d = go (dec_lt p q) (dec_lt q p) (dec_lt n m) (dec_lt m n)
  where
    go : Dec (p < q) → Dec (q < p) → Dec (n < m) → Dec (m < n) → Parted n p m q limit
    go (yes a) b x y = parted_at p (omega arith) (at_first n p p refl) (before_first m q p a)
    go (no a) (yes b) x y = swap (parted_at q (omega arith) (at_first m q q refl) (before_first n p q b))
    go (no a) (no b) (yes x) y = parted_at (p + n) (omega arith) (at_second n p (p + n) refl) (before_second m q (p + n) (omega arith) (omega arith))
    go (no a) (no b) (no x) (yes y) = swap (parted_at (q + m) (omega arith) (at_second m q (q + m) refl) (before_second n p (q + m) (omega arith) (omega arith)))
    go (no a) (no b) (no x) (no y) = absurd (d (omega arith) (omega arith))

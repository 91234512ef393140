-- Decimal digits. Assumes nothing.
use mathlib.Core.Path.{◌≡◌, refl, sym, ◌∙◌, ap}
use Prim.Native.Nat.{ℕ, zero, suc, max, ◌+◌, ◌*◌, ◌/◌, ◌%◌, ◌^◌, ◌≤◌, ◌<◌}
use native.Mathlib.Nat.{pow-suc}
use native.Mathlib.Omega.{arith}
use mathlib.Core.Bool.{Bool, true, false}
use mathlib.Core.List.{List, [], ◌∷◌, ◌++◌}
use lib.ListN.{length, length-append}
use lib.Dec.{ltb}
use borrow.Author.Tests.{ltb-true, ltb-false, lt-ltb, le-ltb}
use Rattle.text.specs.Text.{digit, digits_in, decimal}

digits_more : (k n : ℕ) → 10 ≤ n → digits_in (suc k) n ≡ digits_in k (n / 10) ++ (digit (n % 10) ∷ [])
unfolding digits_in
digits_more k n h = rw (le-ltb n 10 h)

digits_one : (k n : ℕ) → n < 10 → digits_in (suc k) n ≡ digit n ∷ []
unfolding digits_in
digits_one k n h = rw (lt-ltb n 10 h)

-- more digits than a number has change nothing
enough : (k j n : ℕ) → n < k → n < j → digits_in k n ≡ digits_in j n
enough zero j n p q = absurd (omega arith)
enough (suc k) zero n p q = absurd (omega arith)
enough (suc k) (suc j) n p q = go (ltb n 10) refl (enough k j (n / 10))
  where
    go : (b : Bool) → ltb n 10 ≡ b → (n / 10 < k → n / 10 < j → digits_in k (n / 10) ≡ digits_in j (n / 10)) → digits_in (suc k) n ≡ digits_in (suc j) n
    go true e h = digits_one k n (ltb-true n 10 e) ∙ sym (digits_one j n (ltb-true n 10 e))
    go false e h =
        let l : 10 ≤ n = ltb-false n 10 e in
        digits_more k n l ∙ ap (λ (w : List ℕ). w ++ (digit (n % 10) ∷ [])) (h (omega arith) (omega arith)) ∙ sym (digits_more j n l)

pub decimal_one : (n : ℕ) → n < 10 → decimal n ≡ digit n ∷ []
unfolding decimal
decimal_one n h = digits_one n n h

pub decimal_more : (n : ℕ) → 10 ≤ n → decimal n ≡ decimal (n / 10) ++ (digit (n % 10) ∷ [])
unfolding decimal
decimal_more n h = digits_more n n h ∙ ap (λ (w : List ℕ). w ++ (digit (n % 10) ∷ [])) (enough n (suc (n / 10)) (n / 10) (omega arith) (omega arith))

-- ---- how many digits

pub one_digit : (n : ℕ) → n < 10 → length (decimal n) ≡ 1
one_digit n h = ap length (decimal_one n h)

pub one_more : (n : ℕ) → 10 ≤ n → length (decimal n) ≡ length (decimal (n / 10)) + 1
one_more n h = ap length (decimal_more n h) ∙ length-append (decimal (n / 10)) (digit (n % 10) ∷ [])

-- a number below 10 ^ (k + 1) has at most k + 1
pub digits_fit : (k n : ℕ) → n < 10 ^ suc k → length (decimal n) ≤ suc k
digits_fit zero n h = omega (arith, one_digit n (omega arith))
digits_fit (suc k) n h = go (ltb n 10) refl (digits_fit k (n / 10))
  where
    go : (t : Bool) → ltb n 10 ≡ t → (n / 10 < 10 ^ suc k → length (decimal (n / 10)) ≤ suc k) → length (decimal n) ≤ suc (suc k)
    go true e r = omega (arith, one_digit n (ltb-true n 10 e))
    go false e r = omega (arith, r (omega (arith, pow-suc 10 (suc k))), one_more n (ltb-false n 10 e))

-- as many as the logarithm and one, which is taken of 1 where the number is 0
exactly : (k n : ℕ) → 10 ^ k ≤ n → n < 10 * 10 ^ k → length (decimal n) ≡ k + 1
exactly zero n p q = one_digit n (omega arith)
exactly (suc k) n p q =
    let e : 10 ^ suc k ≡ 10 ^ k * 10 = pow-suc 10 k in
    omega (arith, exactly k (n / 10) (omega arith) (omega arith), one_more n (omega arith))

pub digits_by : (n k : ℕ) {m : ℕ} → m ≡ max n 1 → 10 ^ k ≤ m → m < 10 * 10 ^ k → k + 1 ≡ length (decimal n)
digits_by zero k {m} e p q = omega (arith, exactly k 1 (omega arith) (omega arith), one_digit 0 (omega arith), one_digit 1 (omega arith))
digits_by (suc n) k {m} e p q = omega (arith, exactly k (suc n) (omega arith) (omega arith))

-- A property of each entry of a list, by the entry's number. Assumes nothing.
use mathlib.Core.Path.{◌≡◌, sym, subst}
use Prim.Native.Nat.{ℕ, zero, suc, ◌+◌, ◌<◌}
use native.Mathlib.Decide.{dec_lt}
use native.Mathlib.Nat.{zero-add}
use native.Mathlib.Omega.{arith}
use mathlib.Core.List.{List, [], ◌∷◌, ◌++◌}
use mathlib.Core.Option.{some}
use lib.ListN.{length, get_or, get_elem?}

-- a property of the numbers below n, and of n, is one of those below suc n
pub below_suc : (P : ℕ → Type 0) (n : ℕ) → ((i : ℕ) → i < n → P i) → P n → (i : ℕ) → i < suc n → P i
below_suc P n h x i l = elim (dec_lt i n) [ yes y ↦ h i y | no y ↦ subst P (omega arith) x ]

module _ {A : Type 0} where
  -- the entries have the property, the first with number i
  abbrev pub Each : (ℕ → A → Type 0) → ℕ → List A → Type 0
  Each P i [] = Unit {0}
  Each P i (a ∷ l) = P i a × Each P (suc i) l

  pub each_entry : (P : ℕ → A → Type 0) (i : ℕ) (l : List A) (n : ℕ) (a : A) → Each P i l → get_elem? l n ≡ some a → P (i + n) a
  each_entry P i [] n a h e = absurd (let z : ◌≡◌ {A = ℕ} 0 1 = cc in omega arith)
  each_entry P i (b ∷ l) zero a h e =
      let p : b ≡ a = cc in
      let q : i ≡ i + 0 = omega arith in
      subst (λ (j : ℕ). P j a) q (subst (P i) p h.0)
  each_entry P i (b ∷ l) (suc n) a h e =
      let q : suc i + n ≡ i + suc n = omega arith in
      subst (λ (j : ℕ). P j a) q (each_entry P (suc i) l n a h.1 e)

  pub each_front : (P : ℕ → A → Type 0) (i : ℕ) (front rest : List A) → Each P i (front ++ rest) → Each P i front
  each_front P i [] rest h = tt
  each_front P i (a ∷ front) rest h = (h.0, each_front P (suc i) front rest h.1)

  pub each_at : (P : ℕ → A → Type 0) (i : ℕ) (front : List A) (a : A) (back : List A) → Each P i (front ++ (a ∷ back)) → P (i + length front) a
  each_at P i [] a back h = subst (λ (j : ℕ). P j a) (omega arith) h.0
  each_at P i (b ∷ front) a back h = subst (λ (j : ℕ). P j a) (omega arith) (each_at P (suc i) front a back h.1)

  pub each_map : (P Q : ℕ → A → Type 0) (i : ℕ) (l : List A) → ((j : ℕ) (a : A) → j < i + length l → P j a → Q j a) → Each P i l → Each Q i l
  each_map P Q i [] f h = tt
  each_map P Q i (a ∷ l) f h = (f i a (omega arith) h.0, each_map P Q (suc i) l (λ j b x. f j b (omega arith)) h.1)

  pub each_both : (P Q : ℕ → A → Type 0) (i : ℕ) (l : List A) → Each P i l → Each Q i l → Each (λ j a. P j a × Q j a) i l
  each_both P Q i [] h k = tt
  each_both P Q i (a ∷ l) h k = ((h.0, k.0), each_both P Q (suc i) l h.1 k.1)

  of_from : (P : ℕ → A → Type 0) (i : ℕ) (l : List A) (d : A) → ((j : ℕ) → j < length l → P (i + j) (get_or l j d)) → Each P i l
  of_from P i [] d h = tt
  of_from P i (a ∷ l) d h = (
    subst (λ (j : ℕ). P j a) (omega arith) (h 0 (omega arith)),
    of_from P (suc i) l d (λ j x. subst (λ (n : ℕ). P n (get_or l j d)) (omega arith) (h (suc j) (omega arith))),
  )

  get_from : (P : ℕ → A → Type 0) (i : ℕ) (l : List A) (d : A) (j : ℕ) → j < length l → Each P i l → P (i + j) (get_or l j d)
  get_from P i [] d j x h = absurd (omega arith)
  get_from P i (a ∷ l) d zero x h = subst (λ (n : ℕ). P n a) (omega arith) h.0
  get_from P i (a ∷ l) d (suc j) x h = subst (λ (n : ℕ). P n (get_or l j d)) (omega arith) (get_from P (suc i) l d j (omega arith) h.1)

  -- each entry of a whole list, and back
  pub each_of : (P : ℕ → A → Type 0) (l : List A) (d : A) → ((j : ℕ) → j < length l → P j (get_or l j d)) → Each P 0 l
  each_of P l d h = of_from P 0 l d (λ j x. subst (λ (n : ℕ). P n (get_or l j d)) (sym (zero-add j)) (h j x))

  pub each_get : (P : ℕ → A → Type 0) (l : List A) (d : A) (j : ℕ) → j < length l → Each P 0 l → P j (get_or l j d)
  each_get P l d j x h = subst (λ (n : ℕ). P n (get_or l j d)) (zero-add j) (get_from P 0 l d j x h)

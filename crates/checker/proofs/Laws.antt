-- Numbers and lists of words. Assumes nothing.
use mathlib.Core.Path.{◌≡◌, refl, sym, ◌∙◌, ap, ap₂, subst⁻¹}
use Prim.Native.Nat.{ℕ, ◌+◌, ◌*◌, ◌^◌, ◌<◌}
use native.Mathlib.Nat.{mul-le-mul_left, mul-lt-mul_of_pos_right, lt_of_le_of_lt, le_of_lt}
use native.Mathlib.Omega.{arith}
use lib.Pow.{pow_pos, pow-add}
use lib.ListN.{length, take, drop, set, get_or, drop_of_length-le}
use lib.Seq.{drop-drop, take_at, drop_at}
use mathlib.Core.List.{List, [], ◌∷◌, ◌++◌, append_assoc, append-nil}
use Rattle.std.proofs.lemmas.List.Edits.{sets, sets-eq}

-- a product fits twice the width of its factors
pub below : (k : ℕ) {a b : ℕ} → a < 2 ^ k → b < 2 ^ k → a * b < 2 ^ (k + k)
below k {a} {b} ha hb =
    subst⁻¹ (λ (n : ℕ). a * b < n) (pow-add 2 k k)
    (lt_of_le_of_lt (mul-le-mul_left a (le_of_lt hb)) (mul-lt-mul_of_pos_right ha (pow_pos k)))

-- four words, one by one
pub four : (xs : List ℕ) → length xs ≡ 4 → xs ≡ get_or xs 0 0 ∷ get_or xs 1 0 ∷ get_or xs 2 0 ∷ get_or xs 3 0 ∷ []
four [] e = absurd (omega arith)
four (a ∷ []) e = absurd (omega arith)
four (a ∷ b ∷ []) e = absurd (omega arith)
four (a ∷ b ∷ c ∷ []) e = absurd (omega arith)
four (a ∷ b ∷ c ∷ d ∷ []) e = refl
four (a ∷ b ∷ c ∷ d ∷ x ∷ xs) e = absurd (omega arith)

-- a word put among four
pub put : (xs : List ℕ) (n i word : ℕ) → length xs ≡ 4 → n ≡ i → set (get_or xs 0 0 ∷ get_or xs 1 0 ∷ get_or xs 2 0 ∷ get_or xs 3 0 ∷ []) i word ≡ set xs n word
put xs n i word l e = sym (rw e (ap (λ (ys : List ℕ). set ys i word) (four xs l)))

-- words that are stored one after the other over all of a list
pub stored : (l vs : List ℕ) → length l ≡ length vs → sets l 0 vs ≡ vs
stored l vs e =
    let h : drop (0 + length vs) l ≡ [] = drop_of_length-le l {i = 0 + length vs} (omega arith) in
    sets-eq vs l 0 (omega arith) ∙ ap (λ (x : List ℕ). vs ++ x) h ∙ append-nil vs

-- a buffer that begins with xs, once j words ys are stored behind them
pub stored_next : (xs ys old buffer : List ℕ) (i j : ℕ) → length xs ≡ i → buffer ≡ xs ++ drop i old
    → take i buffer ++ (ys ++ drop (i + j) buffer) ≡ (xs ++ ys) ++ drop (i + j) old
stored_next xs ys old buffer i j n held =
    let front : take i buffer ≡ xs = ap (take i) held ∙ take_at xs (drop i old) i n in
    let back : drop (i + j) buffer ≡ drop (i + j) old =
    sym (drop-drop j i buffer) ∙ ap (λ (x : List ℕ). drop j (drop i x)) held ∙ ap (drop j) (drop_at xs (drop i old) i n) ∙ drop-drop j i old in
    ap₂ (λ (x y : List ℕ). x ++ (ys ++ y)) front back ∙ sym (append_assoc xs ys (drop (i + j) old))

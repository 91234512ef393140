-- Numbers in order, and the keys of lines in order. Assumes nothing.
use mathlib.Core.Path.{◌≡◌, refl, sym, ◌∙◌, ap, ap₂}
use Prim.Native.Nat.{ℕ, suc, ◌+◌, ◌-◌, ◌%◌, ◌≤◌, ◌<◌}
use native.Mathlib.Omega.{arith}
use mathlib.Core.List.{List, [], ◌∷◌, map}
use lib.ListN.{length, get_or}
use Rattle.std.specs.List.{sum_by}
use Rattle.std.specs.List.Sorted.{IsPermutation, IsNonDecreasing}
use Rattle.std.proofs.lemmas.List.Recursion.{is_sum_by}
use Rattle.std.proofs.lemmas.List.Sorted.{sum_by-IsPermutation}
use Rattle.std.proofs.lemmas.List.Sums.{sum_by-cons}
use Rattle.table.specs.Rows.{max_flows}
use Rattle.loads.specs.Loads.{Line, lines_from, key, sorted, Among, here, there}
use Rattle.loads.proofs.Keys.{key_flow}
use Rattle.loads.proofs.Orders.{Ascending, sorted_only, sorted_sum, of_lines, lines_ascending}

-- ---- numbers

-- each number is at least the one before it, the first at least a number
abbrev Rising : ℕ → List ℕ → Type 0
Rising from [] = Unit {0}
Rising from (x ∷ xs) = (from ≤ x) × Rising x xs

-- what a sort ensures
rising : (from : ℕ) (xs : List ℕ) → (0 < length xs → from ≤ get_or xs 0 0) → IsNonDecreasing xs → Rising from xs
rising from [] h s = tt
rising from (x ∷ xs) h s =
    (h (omega arith), rising x xs (λ l. s 0 1 0 (omega arith) (omega arith)) (λ i j d p q. s (suc i) (suc j) d (omega arith) (omega arith)))

-- all of them are at least the first
none_below : (t from : ℕ) (xs : List ℕ) → t ≤ from → Rising from xs → sum_by (λ k. t - k) xs ≡ 0
none_below t from [] h r = refl
none_below t from (x ∷ xs) h r = omega (arith, r.0, sum_by-cons (λ k. t - k) x xs, none_below t x xs (omega (arith, r.0)) r.1)

-- of the same numbers there is one order
one_rising : (a b : ℕ) (xs ys : List ℕ) → Rising a xs → Rising b ys → ((f : ℕ → ℕ) → sum_by f xs ≡ sum_by f ys) → xs ≡ ys
one_rising a b [] [] r s e = refl
one_rising a b [] (y ∷ ys) r s e = absurd (omega (arith, e (λ k. 1), sum_by-cons (λ k. 1) y ys))
one_rising a b (x ∷ xs) [] r s e = absurd (omega (arith, e (λ k. 1), sum_by-cons (λ k. 1) x xs))
one_rising a b (x ∷ xs) (y ∷ ys) r s e =
    let heads : (f : ℕ → ℕ) → f x + sum_by f xs ≡ f y + sum_by f ys = λ f. sym (sum_by-cons f x xs) ∙ e f ∙ sum_by-cons f y ys in
    let first : x ≡ y =
    omega (arith, heads (λ k. x - k), heads (λ k. y - k), none_below x x xs (omega arith) r.1, none_below y y ys (omega arith) s.1) in
    ap₂ ◌∷◌ first (one_rising x y xs ys r.1 s.1 (λ f. omega (arith, heads f, ap f first)))

-- ---- the keys of the flows

by_keys : (f : ℕ → ℕ) (ls : List Line) → sum_by f (map key ls) ≡ sum_by (λ l. f (key l)) ls
by_keys f = is_sum_by (λ ls. sum_by f (map key ls)) (λ l. f (key l)) refl (λ l ls. sum_by-cons f (key l) (map key ls))

keys_rising : (a from : ℕ) (ls : List Line) → a ≤ from → Ascending from ls → Rising a (map key ls)
keys_rising a from [] h s = tt
keys_rising a from (l ∷ ls) h s = (omega (arith, s.0), keys_rising (key l) (suc (key l)) ls (omega arith) s.1)

module _ (line : ℕ → Line) (own : (g : ℕ) → (line g).flow ≡ g) (n : ℕ) (few : n ≤ max_flows) where
  pub keys_sorted : (ks : List ℕ) → IsPermutation (map key (lines_from line n 0)) ks → IsNonDecreasing ks → ks ≡ map key (sorted (lines_from line n 0))
  keys_sorted ks p s =
      let ls : List Line = lines_from line n 0 in
      one_rising 0 0 ks (map key (sorted ls)) (rising 0 ks (λ l. omega arith) s) (keys_rising 0 0 (sorted ls) (omega arith) (lines_ascending line own n few))
      (λ f. sum_by-IsPermutation f (map key ls) ks p ∙ by_keys f ls ∙ sym (sorted_sum (λ l. f (key l)) ls) ∙ sym (by_keys f (sorted ls)))

  -- the remainder of a key is its flow, so keys give the lines back
  lines_back : (ls : List Line) → ((l : Line) → Among l ls → (g : ℕ) × (0 ≤ g) × (g < 0 + n) × (l ≡ line g)) → map (λ k. line (k % max_flows)) (map key ls) ≡ ls
  lines_back [] h = refl
  lines_back (l ∷ ls) h = ap₂ ◌∷◌ back (lines_back ls (λ x i. h x (there i)))
    where
      back : line (key l % max_flows) ≡ l
      back =
          let x = h l (here refl) in
          let f : l.flow ≡ x.0 = ap (λ (w : Line). w.flow) x.3 ∙ own x.0 in
          ap line (key_flow l (omega (arith, x.2)) ∙ f) ∙ sym x.3

  pub lines_by_keys : map (λ k. line (k % max_flows)) (map key (sorted (lines_from line n 0))) ≡ sorted (lines_from line n 0)
  lines_by_keys = let ls : List Line = lines_from line n 0 in lines_back (sorted ls) (λ l i. of_lines line n 0 l (sorted_only l ls i))

-- Two's complement: the top bit and the order of the numbers, and the value of a sum. Assumes nothing.
use mathlib.Core.Path.{◌≡◌, refl, sym, ◌∙◌, ap}
use Prim.Native.Nat.{ℕ, zero, suc, ◌+◌, ◌-◌, ◌%◌, ◌^◌, ◌<◌}
use native.Mathlib.Omega.{arith}
use borrow.Author.Tests.{ltb-true, ltb-false, lt-ltb, le-ltb}
use lib.Bits.{bit_xor, xor_comm, xor_zero_r, xor_shifted, xor_block}
use lib.Dec.{T, ltb, le→leb}
use lib.IntN.{ℤ, pos, negsuc, neg_ℤ, sub_ℕ, ◌+ℤ◌}
use lib.Signed.{le_z, le_z_yes}
use Rattle.table.proofs.Tests.{same_test, Tried, passed, failed, try}
use Rattle.semantics.specs.Operators.{signed, below}
use Rattle.semantics.specs.TwosComplement.{wrapped, TwosComplement, WorkedOut}

-- the top bit flipped
abbrev flipped : ℕ → ℕ
flipped x = bit_xor x (2 ^ 31)

flip_low : (r : ℕ) → r < 2 ^ 31 → flipped r ≡ 2 ^ 31 + r
flip_low r h = xor_comm r (2 ^ 31) ∙ xor_shifted 1 31 r h

flip_high : (r : ℕ) → r < 2 ^ 31 → flipped (2 ^ 31 + r) ≡ r
flip_high r h = xor_block 31 1 1 r 0 h (omega arith) ∙ omega (arith, xor_zero_r r)

-- A value below 2 ^ 31 stands for itself; one from there on is 2 ^ 32 − (n + 1) and stands for −(n + 1).
data Sign (x : ℕ) : Type 0 where
  plus : x < 2 ^ 31 → signed x ≡ pos x → flipped x ≡ 2 ^ 31 + x → Sign x
  minus : (n : ℕ) → n < 2 ^ 31 → x + suc n ≡ 2 ^ 32 → signed x ≡ negsuc n → flipped x + suc n ≡ 2 ^ 31 → Sign x

sign : (x : ℕ) → x < 2 ^ 32 → Sign x
unfolding signed
sign x h = go (try (ltb x (2 ^ 31)))
  where
    go : Tried (ltb x (2 ^ 31)) → Sign x
    go (passed e) = let l : x < 2 ^ 31 = ltb-true x (2 ^ 31) e in plus l (rw e) (flip_low x l)
    go (failed e) =
        let r : ℕ = x - 2 ^ 31 in
        let is : x ≡ 2 ^ 31 + r = omega (arith, ltb-false x (2 ^ 31) e) in
        minus (2 ^ 32 - suc x) (omega arith) (omega arith) (rw (e, lt-ltb x (2 ^ 32) h))
        (omega (arith, ap flipped is, flip_high r (omega arith)))

same_order : (a b c d : ℕ) → (a < b → c < d) → (c < d → a < b) → ltb a b ≡ ltb c d
same_order a b c d f g = same_test (ltb a b) (ltb c d) (λ t. lt-ltb c d (f (ltb-true a b t))) (λ t. lt-ltb a b (g (ltb-true c d t)))

-- with the top bit flipped, values stand in the order of the numbers
pub flipped_order : (x y : ℕ) → x < 2 ^ 32 → y < 2 ^ 32 → ltb (bit_xor x (2 ^ 31)) (bit_xor y (2 ^ 31)) ≡ below x y
unfolding below
flipped_order x y h k = go (sign x h) (sign y k)
  where
    go : Sign x → Sign y → ltb (flipped x) (flipped y) ≡ below x y
    go (plus l a u) (plus m b v) = rw (a, b) (same_order (flipped x) (flipped y) x y (λ t. omega arith) (λ t. omega arith))
    go (plus l a u) (minus n m e b v) = rw (a, b) (le-ltb (flipped x) (flipped y) (omega arith))
    go (minus n l d a u) (plus m b v) = rw (a, b) (lt-ltb (flipped x) (flipped y) (omega arith))
    go (minus n l d a u) (minus p m e b v) = rw (a, b) (same_order (flipped x) (flipped y) p n (λ t. omega arith) (λ t. omega arith))

-- the value of a sum, and of a negative
wrapped_sub : (a b : ℕ) → wrapped (sub_ℕ a (suc b)) ≡ (wrapped (pos a) + wrapped (negsuc b)) % 2 ^ 32
unfolding wrapped
wrapped_sub a b = go (try (ltb a (suc b)))
  where
    go : Tried (ltb a (suc b)) → wrapped (sub_ℕ a (suc b)) ≡ (wrapped (pos a) + wrapped (negsuc b)) % 2 ^ 32
    go (passed e) = rw e (omega (arith, ltb-true a (suc b) e))
    go (failed e) = rw e (omega (arith, ltb-false a (suc b) e))

wrapped_sum : (z w : ℤ) → wrapped (z +ℤ w) ≡ (wrapped z + wrapped w) % 2 ^ 32
unfolding wrapped
wrapped_sum (pos a) (pos b) = omega arith
wrapped_sum (pos a) (negsuc b) = wrapped_sub a b
wrapped_sum (negsuc a) (pos b) = wrapped_sub b a ∙ omega arith
wrapped_sum (negsuc a) (negsuc b) = omega arith

wrapped_negative : (z : ℤ) → wrapped (neg_ℤ z) ≡ (2 ^ 32 - wrapped z) % 2 ^ 32
unfolding wrapped
wrapped_negative (pos zero) = omega arith
wrapped_negative (pos (suc n)) = omega arith
wrapped_negative (negsuc n) = omega arith

module _ (x : ℕ) where
  -- a value is that of its number
  wrapped_signed : Sign x → wrapped (signed x) ≡ x
  unfolding wrapped
  wrapped_signed (plus l a u) = rw a (omega arith)
  wrapped_signed (minus n l d a u) = rw a (omega arith)

  least : Sign x → T (le_z (negsuc (2 ^ 31 - 1)) (signed x))
  least (plus l a u) = rw a tt
  least (minus n l d a u) = rw a (le→leb n (2 ^ 31 - 1) (omega arith))

  most : Sign x → T (le_z (signed x) (pos (2 ^ 31 - 1)))
  most (plus l a u) = rw a (le→leb x (2 ^ 31 - 1) (omega arith))
  most (minus n l d a u) = rw a tt

-- equal, add and subtract suit signed numbers as they are
pub twos_complement : TwosComplement
twos_complement x y h k =
    let s : Sign x = sign x (omega arith) in
    let vx : wrapped (signed x) ≡ x = wrapped_signed x s in
    let vy : wrapped (signed y) ≡ y = wrapped_signed y (sign y (omega arith)) in
    record {
      least = le_z_yes (least x s);
      most = le_z_yes (most x s);
      one_value = λ e. sym vx ∙ ap wrapped e ∙ vy;
      sum = sym (wrapped_sum (signed x) (signed y) ∙ rw (vx, vy));
      difference = sym (wrapped_sum (signed x) (neg_ℤ (signed y)) ∙ rw (wrapped_negative (signed y), vx, vy) (omega arith));
    }

-- computed
pub worked_out : WorkedOut
unfolding below signed
worked_out = (refl, refl, refl, refl, refl, refl, refl, refl, refl)

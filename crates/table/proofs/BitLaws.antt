-- Laws of bits, each over the width: numbers to bits and back, and the bits of bytes. Assumes nothing.
use mathlib.Core.Path.{◌≡◌, refl, sym, ap, ◌∙◌}
use mathlib.Core.Bool.{Bool, true, false}
use mathlib.Core.List.{List, [], ◌∷◌, ◌++◌, append_assoc}
use Prim.Native.Nat.{ℕ, zero, suc, ◌+◌, ◌-◌, ◌*◌, ◌/◌, ◌%◌, ◌^◌, ◌<◌}
use native.Mathlib.Nat.{add-suc, suc-add, zero-add, zero-mul, add_assoc, add-mul, mul_assoc, mul_comm, add_comm, mod-one, pow-suc, mod-lt}
use native.Mathlib.Nat.{mod-eq_of_lt, zero-lt-suc, zero-div, mul-add-mod_self_right, sub-zero, zero-sub, suc-sub-suc}
use native.Mathlib.Numerals.{add-one}
use native.Mathlib.Omega.{arith}
use lib.Dec.{eqb}
use lib.ListN.{length, take, drop, length-append, replicate}
use lib.Seq.{drop-append-add, take-append-add, drop-nil, take-nil}
use lib.Pow.{pow-add, shr-shr, mod-pow-add, mod-mod-pow, high, field as pow-field}
use lib.Arith.{digits_lt}
use Rattle.table.specs.Bits.{bit, to_bits, from_bits, bits}

-- ---- one bit

bit_odd : (m : ℕ) → m < 2 → bit (eqb m 1) ≡ m
bit_odd zero h = refl
bit_odd (suc zero) h = refl
bit_odd (suc (suc m)) h = absurd (omega arith)

bit_lt : (b : Bool) → bit b < 2
bit_lt true = omega arith
bit_lt false = omega arith

odd_bit : (b : Bool) → eqb (bit b) 1 ≡ b
odd_bit true = refl
odd_bit false = refl

-- ---- a number's bits

pub length_to_bits : (w x : ℕ) → length (to_bits w x) ≡ w
unfolding to_bits
length_to_bits zero x = refl
length_to_bits (suc w) x = ap suc (length_to_bits w x)

pub from_bits_append : (xs ys : List Bool) → from_bits (xs ++ ys) ≡ from_bits xs * 2 ^ length ys + from_bits ys
unfolding from_bits
from_bits_append [] ys = rw (zero-mul (2 ^ length ys), zero-add)
from_bits_append (x ∷ xs) ys =
    rw (from_bits_append xs ys, length-append xs ys, pow-add 2 (length xs) (length ys), add-mul (bit x * 2 ^ length xs), mul_assoc (bit x), add_assoc)

pub from_bits_lt : (bs : List Bool) → from_bits bs < 2 ^ length bs
unfolding from_bits
from_bits_lt [] = omega arith
from_bits_lt (b ∷ bs) = rw (pow-suc 2 (length bs), mul_comm (2 ^ length bs) 2) (digits_lt (bit_lt b) (from_bits_lt bs))

-- the number of the w low bits
from_low : (w n : ℕ) → from_bits (to_bits w n) ≡ n % 2 ^ w
unfolding from_bits to_bits
from_low zero n = sym (mod-one n)
from_low (suc w) n =
    rw (from_low w n, length_to_bits w n, bit_odd (n / 2 ^ w % 2) (mod-lt (n / 2 ^ w) (zero-lt-suc 1)))
    (sym (ap (λ (k : ℕ). n % 2 ^ k) (sym (suc-add 0 w ∙ ap suc (zero-add w))) ∙ mod-pow-add n 1 w))

-- a number that fits its width comes back
pub from_to : (w : ℕ) {n : ℕ} → n < 2 ^ w → from_bits (to_bits w n) ≡ n
from_to w {n} h = from_low w n ∙ mod-eq_of_lt h

-- the bits of a number are those of its high part and then those of its low part
pub to_bits_append : (a b n : ℕ) → to_bits (a + b) n ≡ to_bits a (n / 2 ^ b) ++ to_bits b n
unfolding to_bits
to_bits_append zero b n = rw zero-add
to_bits_append (suc a) b n = rw (suc-add a b, to_bits_append a b n, shr-shr n b a, add_comm b a)

-- bits above the w low ones do not count
pub to_bits_mod : (w j n : ℕ) → to_bits w (n % 2 ^ (j + w)) ≡ to_bits w n
unfolding to_bits
to_bits_mod zero j n = refl
to_bits_mod (suc w) j n =
    rw (add-suc j w, ← suc-add j w, pow-field n (suc j) w, to_bits_mod w (suc j) n, ← add-one j, mod-mod-pow (n / 2 ^ w) j 1)

pub to_bits_low : (w n : ℕ) → to_bits w (n % 2 ^ w) ≡ to_bits w n
to_bits_low w n = ap (λ (k : ℕ). to_bits w (n % 2 ^ k)) (sym (zero-add w)) ∙ to_bits_mod w 0 n

pub to_bits_behind : (w q r : ℕ) → to_bits w (q * 2 ^ w + r) ≡ to_bits w r
to_bits_behind w q r = sym (to_bits_low w (q * 2 ^ w + r)) ∙ ap (to_bits w) (mul-add-mod_self_right q (2 ^ w) r) ∙ to_bits_low w r

-- bits that were made a number come back
pub to_from : (bs : List Bool) → to_bits (length bs) (from_bits bs) ≡ bs
unfolding to_bits from_bits
to_from [] = refl
to_from (b ∷ bs) =
    rw (high (bit b) (length bs) (from_bits_lt bs), mod-eq_of_lt (bit_lt b), odd_bit b, to_bits_behind (length bs) (bit b) (from_bits bs), to_from bs)

pub to_from_at : (w : ℕ) (bs : List Bool) → length bs ≡ w → to_bits w (from_bits bs) ≡ bs
to_from_at w bs e = ap (λ (k : ℕ). to_bits k (from_bits bs)) (sym e) ∙ to_from bs

pub zeros : (n : ℕ) → to_bits n 0 ≡ replicate n false
unfolding to_bits
zeros zero = refl
zeros (suc n) = rw (zero-div (2 ^ n), zeros n)

-- ---- bytes

pub bits_append : (xs ys : List ℕ) → bits (xs ++ ys) ≡ bits xs ++ bits ys
unfolding bits
bits_append [] ys = refl
bits_append (x ∷ xs) ys = rw (bits_append xs ys, append_assoc (to_bits 8 x))

pub length_bits : (s : List ℕ) → length (bits s) ≡ 8 * length s
unfolding bits
length_bits [] = refl
length_bits (x ∷ s) = rw (length-append (to_bits 8 x) (bits s), length_to_bits 8 x, length_bits s) (omega arith)

pub drop_bits : (i : ℕ) (s : List ℕ) → drop (8 * i) (bits s) ≡ bits (drop i s)
unfolding bits
drop_bits zero s = refl
drop_bits (suc i) [] = drop-nil (8 * suc i)
drop_bits (suc i) (x ∷ s) =
    let e : 8 * suc i ≡ length (to_bits 8 x) + 8 * i = omega (arith, length_to_bits 8 x) in
    rw (e, drop-append-add (to_bits 8 x) (bits s) (8 * i)) (drop_bits i s)

-- the bits of the first bytes
pub take_bits : (i : ℕ) (s : List ℕ) → take (8 * i) (bits s) ≡ bits (take i s)
unfolding bits
take_bits zero s = refl
take_bits (suc i) [] = take-nil (8 * suc i)
take_bits (suc i) (x ∷ s) =
    let e : 8 * suc i ≡ length (to_bits 8 x) + 8 * i = omega (arith, length_to_bits 8 x) in
    rw (e, take-append-add (to_bits 8 x) (bits s) (8 * i), take_bits i s)

-- ---- parts of lists

module _ {A : Type 0} where
  pub take_append : (n : ℕ) (p q : List A) → take n (p ++ q) ≡ take n p ++ take (n - length p) q
  take_append zero [] q = refl
  take_append zero (x ∷ p) q = rw zero-sub
  take_append (suc n) [] q = rw sub-zero
  take_append (suc n) (x ∷ p) q = rw (suc-sub-suc, take_append n p q)

  pub drop_append : (n : ℕ) (p q : List A) → drop n (p ++ q) ≡ drop n p ++ drop (n - length p) q
  drop_append zero [] q = refl
  drop_append zero (x ∷ p) q = rw zero-sub
  drop_append (suc n) [] q = rw sub-zero
  drop_append (suc n) (x ∷ p) q = rw (suc-sub-suc, drop_append n p q)

  pub drop_take : (o w : ℕ) (l : List A) → drop o (take (o + w) l) ≡ take w (drop o l)
  drop_take zero w l = rw zero-add
  drop_take (suc o) w [] = rw suc-add (sym (take-nil w))
  drop_take (suc o) w (x ∷ l) = rw suc-add (drop_take o w l)

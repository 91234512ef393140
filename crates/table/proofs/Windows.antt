-- A field at a bit place is a part of eight bytes, shifted and masked. Assumes nothing.
use mathlib.Core.Path.{◌≡◌, refl, sym, ap, ap₂, ◌∙◌}
use mathlib.Core.Bool.{Bool, true, false, ◌&&◌}
use mathlib.Core.List.{List, [], ◌∷◌, ◌++◌, append_assoc, append-nil}
use Prim.Native.Nat.{ℕ, ◌+◌, ◌-◌, ◌*◌, ◌/◌, ◌%◌, ◌^◌, ◌≤◌, ◌<◌}
use native.Mathlib.Nat.{one-mul, lt_of_lt_of_le}
use native.Mathlib.Numerals.{add-one}
use native.Mathlib.Omega.{arith}
use lib.Dec.{leb}
use lib.Bits.{bit_and, and_mask}
use lib.ListN.{length, get_or, take, drop, length-take, length-drop, take-append-drop}
use lib.Seq.{drop-drop, take-suc, take-take, length-take-le}
use lib.Pow.{pow_pos, pow_mono, shl_exact, high, low}
use borrow.Author.Tests.{le-leb, lt-leb, leb-true, leb-false}
use Rattle.table.specs.declared.Cursor.{Cursor}
use Rattle.std.specs.Prelude.{Some, None}
use Rattle.table.specs.Bits.{to_bits, from_bits, bits, byte_count}
use Rattle.table.specs.Places.{take_at_bit, last_place, widest, FieldAt, taking_parts}
use Rattle.table.specs.Private.Laid.{window}
use Rattle.table.specs.declared.refusal.Refusal.TheVariants.{CutShort}
use Rattle.table.specs.Answers.{good, refused, unless}
use Rattle.table.specs.Packed.{take_field}
use Rattle.table.proofs.Tests.{and_right, not_good, good_inj, unless_good}
use Rattle.table.proofs.BitLaws.{length_to_bits, from_bits_append, from_bits_lt, from_to, bits_append, length_bits, drop_bits, take_bits, drop_take}

-- ---- a field in the middle of bits, by division

middle : (a f z : List Bool) → from_bits ((a ++ f) ++ z) / 2 ^ length z % 2 ^ length f ≡ from_bits f
middle a f z =
    rw (from_bits_append (a ++ f) z, high (from_bits (a ++ f)) (length z) (from_bits_lt z), from_bits_append a f)
    (low (from_bits a) (length f) (from_bits_lt f))

pub divided : (bs : List Bool) (at w r : ℕ) → at + w + r ≡ length bs → from_bits bs / 2 ^ r % 2 ^ w ≡ from_bits (take w (drop at bs))
divided bs at w r e =
    let rest = drop at bs in
    let all : (take at bs ++ take w rest) ++ drop w rest ≡ bs =
    append_assoc (take at bs) (take w rest) (drop w rest) ∙ ap (λ (l : List Bool). take at bs ++ l) (take-append-drop w rest)
    ∙ take-append-drop at bs in
    let lf : length (take w rest) ≡ w = simp (length-take, length-drop) (omega arith) in
    let lz : length (drop w rest) ≡ r = simp length-drop (omega arith) in
    rw (all, lf, lz) at (middle (take at bs) (take w rest) (drop w rest))

-- ---- eight bytes

-- one byte more
pub joined_more : (s : List ℕ) (k : ℕ) → k < length s → get_or s k 0 < 256
    → from_bits (bits (take (k + 1) s)) ≡ from_bits (bits (take k s)) * 256 + get_or s k 0
unfolding bits
joined_more s k l h =
    let b = get_or s k 0 in
    let e : take (k + 1) s ≡ take k s ++ (b ∷ []) = ap (λ (n : ℕ). take n s) (add-one k) ∙ take-suc s k 0 l in
    ap (λ (x : List ℕ). from_bits (bits x)) e ∙ ap from_bits (bits_append (take k s) (b ∷ []) ∙ ap (λ (x : List Bool). bits (take k s) ++ x) (append-nil (to_bits 8 b)))
    ∙ from_bits_append (bits (take k s)) (to_bits 8 b) ∙ ap₂ (λ (n x : ℕ). from_bits (bits (take k s)) * 2 ^ n + x) (length_to_bits 8 b) (from_to 8 h)

-- before the eighth byte there is room for one more
pub joined_lt : (s : List ℕ) (k : ℕ) → k < 8 → from_bits (bits (take k s)) < 2 ^ 56
joined_lt s k h =
    let l : length (bits (take k s)) ≤ 56 = rw (length_bits (take k s), length-take k s) (omega arith) in
    lt_of_lt_of_le (from_bits_lt (bits (take k s))) (pow_mono l)

-- a window's bits
window_bits : (s : List ℕ) (n : ℕ) → bits (window s n) ≡ drop (8 * (n - 8)) (take (8 * n) (bits s))
window_bits s n = sym (drop_bits (n - 8) (take n s)) ∙ ap (drop (8 * (n - 8))) (sym (take_bits n s))

-- a field is in the window that ends with its last byte
pub window_field : (s : List ℕ) (at w n : ℕ) → w ≤ 56 → at + w ≤ 8 * length s → n ≡ byte_count (at + w)
    → from_bits (bits (window s n)) / 2 ^ (8 * n - (at + w)) % 2 ^ w ≡ from_bits (take w (drop at (bits s)))
window_field s at w n h l e =
    let j : ℕ = 8 * (n - 8) in
    let bs : List Bool = bits s in
    let front : List Bool = take (8 * n) bs in
    let len : at - j + w + (8 * n - (at + w)) ≡ length (drop j front) =
    omega (arith, length-drop j front, length-take-le (8 * n) bs (omega (arith, length_bits s))) in
    let there : j + (at - j) ≡ at = omega arith in
    let whole : at + (8 * n - at) ≡ 8 * n = omega arith in
    ap (λ (x : List Bool). from_bits x / 2 ^ (8 * n - (at + w)) % 2 ^ w) (window_bits s n) ∙ divided (drop j front) (at - j) w (8 * n - (at + w)) len
    ∙ ap (λ (x : List Bool). from_bits (take w x))
    (drop-drop (at - j) j front ∙ ap (λ (k : ℕ). drop k front) there ∙ ap (λ (k : ℕ). drop at (take k bs)) (sym whole) ∙ drop_take at (8 * n - at) bs)
    ∙ ap from_bits (take-take w (8 * n - at) (drop at bs) (omega arith))

-- ---- the code's mask

pub masked : (x w : ℕ) → w ≤ 56 → bit_and x ((1 * 2 ^ w) % 2 ^ 64 - 1) ≡ x % 2 ^ w
masked x w h = rw (shl_exact {a = 1} 1 w 64 (omega arith) (omega arith), one-mul) (and_mask x w)

pub one_le_shifted : (w : ℕ) → w ≤ 56 → 1 ≤ (1 * 2 ^ w) % 2 ^ 64
one_le_shifted w h = rw (shl_exact {a = 1} 1 w 64 (omega arith) (omega arith), one-mul) (pow_pos w)

-- ---- what taking answers

pub take_far : (bs : List Bool) (at w : ℕ) → last_place < at → taking_parts None ≡ take_at_bit bs at w
unfolding take_at_bit
take_far bs at w h = rw (lt-leb at last_place h)

pub take_wide : (bs : List Bool) (at w : ℕ) → at ≤ last_place → widest < w → taking_parts None ≡ take_at_bit bs at w
unfolding take_at_bit
take_wide bs at w p h = rw (le-leb at last_place p, lt-leb w widest h)

pub take_short : (s : List ℕ) (at w : ℕ) → at ≤ last_place → w ≤ widest → length s < (at + w + 7) / 8 → taking_parts None ≡ take_at_bit (bits s) at w
unfolding take_at_bit
take_short s at w p q h = rw (length_bits s, le-leb at last_place p, le-leb w widest q, lt-leb (at + w) (8 * length s) (omega arith))

-- a field that may be taken fits a word
pub number_lt : (s : List ℕ) (at w v : ℕ) → w ≤ widest → v ≡ from_bits (take w (drop at (bits s))) → v < 2 ^ 32
number_lt s at w v q e =
    let f = take w (drop at (bits s)) in
    let l : length f ≤ 32 = rw (length-take w (drop at (bits s))) (omega arith) in
    rw e (lt_of_lt_of_le (from_bits_lt f) (pow_mono l))

pub take_got : (s : List ℕ) (at w v : ℕ) → at ≤ last_place → w ≤ widest → (at + w + 7) / 8 ≤ length s → v ≡ from_bits (take w (drop at (bits s)))
    → taking_parts (Some (v, record { at = at + w })) ≡ take_at_bit (bits s) at w
unfolding take_at_bit
take_got s at w v p q l e =
    rw (length_bits s, le-leb at last_place p, le-leb w widest q, le-leb (at + w) (8 * length s) (omega arith), e)

-- What an answer tells of the bits that are left.
pub record Had (bs : List Bool) (at w x : ℕ) (p : Cursor) : Type 0 where
  pub field : (f : ℕ) → take_field f w (drop at bs) ≡ good (record { field = x; rest = drop p.at bs })
  pub number : from_bits (take w (drop at bs)) ≡ x
  pub past : p.at ≡ at + w
  pub within : at + w ≤ length bs

short_of : (b : Bool) (x : FieldAt) → unless b CutShort 0 (good x) ≡ refused CutShort 0 → b ≡ false
short_of true x e = not_good (sym e)
short_of false x e = refl

pub had : (bs : List Bool) (at w x : ℕ) (p : Cursor) → take_at_bit bs at w ≡ taking_parts (Some (x, p)) → Had bs at w x p
unfolding take_at_bit take_field
had bs at w x p e =
    let g = unless_good (leb at last_place && (leb w widest && leb (at + w) (length bs))) CutShort 0 _ _ e in
    let v : from_bits (take w (drop at bs)) ≡ x = ap (λ (y : FieldAt). y.field) (good_inj g.1) in
    let l : at + w ≤ length bs = leb-true (at + w) (length bs) (and_right (leb w widest) _ (and_right (leb at last_place) _ g.0)) in
    let n : at + w ≡ p.at = ap (λ (y : FieldAt). y.next) (good_inj g.1) in
    let h : w ≤ length (drop at bs) = omega (arith, length-drop at bs) in
    record {
      field = λ f. rw (le-leb w (length (drop at bs)) h, v, drop-drop w at bs, n);
      number = v;
      past = sym n;
      within = l;
    }

pub too_short :
    (bs : List Bool) (at w : ℕ) → at ≤ last_place → w ≤ widest → at ≤ length bs → take_at_bit bs at w ≡ taking_parts None → (f : ℕ)
    → take_field f w (drop at bs) ≡ refused CutShort f
unfolding take_at_bit take_field
too_short bs at w p q l e f =
    let b = short_of (leb at last_place && (leb w widest && leb (at + w) (length bs))) _ e in
    let b2 : leb (at + w) (length bs) ≡ false = rw (le-leb at last_place p, le-leb w widest q) at b in
    let h : length (drop at bs) < w = omega (arith, length-drop at bs, leb-false (at + w) (length bs) b2) in
    rw (lt-leb w (length (drop at bs)) h)

-- a field that is there is taken
pub not_short : (bs : List Bool) (at w : ℕ) → at ≤ last_place → w ≤ widest → at + w ≤ length bs → take_at_bit bs at w ≡ taking_parts None → ⊥
unfolding take_at_bit
not_short bs at w p q l e =
    let b = short_of (leb at last_place && (leb w widest && leb (at + w) (length bs))) _ e in
    let b2 : leb (at + w) (length bs) ≡ false = rw (le-leb at last_place p, le-leb w widest q) at b in
    omega (arith, leb-false (at + w) (length bs) b2)

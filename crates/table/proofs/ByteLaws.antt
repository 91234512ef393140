-- Bits as bytes and back. Assumes nothing.
use mathlib.Core.Path.{◌≡◌, refl, sym, ap, ap₂, ◌∙◌}
use mathlib.Core.Bool.{Bool, false}
use mathlib.Core.List.{List, [], ◌∷◌, ◌++◌, append_assoc}
use Prim.Native.Nat.{ℕ, zero, suc, ◌+◌, ◌-◌, ◌*◌, ◌<◌, ◌≤◌}
use native.Mathlib.Omega.{arith}
use lib.ListN.{length, get_or, take, drop, replicate, length-append, length-drop, length-replicate, take-append-drop, replicate-append-replicate}
use lib.Seq.{take_at, drop_at, take-append-le, length-take-le}
use Rattle.table.specs.Bits.{to_bits, from_bits, bits, next_byte, bytes_from, byte_count, bytes}
use Rattle.table.specs.Private.Laid.{whole, fill, Begun}
use Rattle.table.proofs.BitLaws.{length_to_bits, from_to, to_from_at, take_bits, take_append, drop_append}

-- ---- zero bits

abbrev zeros : ℕ → List Bool
zeros n = replicate n false

pub take_zeros : (n m : ℕ) → n ≤ m → take n (zeros m) ≡ zeros n
take_zeros zero m h = refl
take_zeros (suc n) zero h = absurd (omega arith)
take_zeros (suc n) (suc m) h = ap (λ (l : List Bool). false ∷ l) (take_zeros n m (omega arith))

drop_zeros : (n m : ℕ) → drop n (zeros m) ≡ zeros (m - n)
drop_zeros zero m = let e : m - 0 ≡ m = omega arith in rw e
drop_zeros (suc n) zero = let e : 0 - suc n ≡ 0 = omega arith in rw e
drop_zeros (suc n) (suc m) = let e : suc m - suc n ≡ m - n = omega arith in rw e (drop_zeros n m)

-- ---- zero bits that follow do not count

next_pad : (bs : List Bool) (z : ℕ) → next_byte (bs ++ zeros z) ≡ next_byte bs
next_pad bs z =
    let n = 8 - length bs in
    ap from_bits
    (ap (take 8) (append_assoc bs (zeros z) (zeros 8) ∙ ap (λ (l : List Bool). bs ++ l) (replicate-append-replicate z 8 false))
    ∙ take_append 8 bs (zeros (z + 8)) ∙ ap (λ (l : List Bool). take 8 bs ++ l) (take_zeros n (z + 8) (omega arith) ∙ sym (take_zeros n 8 (omega arith)))
    ∙ sym (take_append 8 bs (zeros 8)))

pub bytes_pad : (n : ℕ) (bs : List Bool) (z : ℕ) → bytes_from n (bs ++ zeros z) ≡ bytes_from n bs
unfolding bytes_from
bytes_pad zero bs z = refl
bytes_pad (suc n) bs z =
    ap₂ ◌∷◌ (next_pad bs z)
    (ap (bytes_from n) (drop_append 8 bs (zeros z) ∙ ap (λ (l : List Bool). drop 8 bs ++ l) (drop_zeros (8 - length bs) z)) ∙ bytes_pad n (drop 8 bs) (z - (8 - length bs)))

-- ---- whole bytes

next_whole : (bs : List Bool) → 8 ≤ length bs → next_byte bs ≡ from_bits (take 8 bs)
next_whole bs h = ap from_bits (take-append-le 8 bs (zeros 8) h)

-- the bytes of bytes' bits
pub bytes_bits : (s : List ℕ) → ((k : ℕ) → get_or s k 0 < 256) → bytes_from (length s) (bits s) ≡ s
unfolding bytes_from bits
bytes_bits [] h = refl
bytes_bits (x ∷ s) h =
    let l : 8 ≤ length (to_bits 8 x ++ bits s) = omega (arith, length-append (to_bits 8 x) (bits s), length_to_bits 8 x) in
    rw (
      next_whole (to_bits 8 x ++ bits s) l,
      take_at (to_bits 8 x) (bits s) 8 (length_to_bits 8 x),
      drop_at (to_bits 8 x) (bits s) 8 (length_to_bits 8 x),
      from_to 8 (h 0),
      bytes_bits s (λ k. h (suc k)),
    )

-- the first bytes are bytes
each_below : (n : ℕ) (s : List ℕ) → ((k : ℕ) → get_or s k 0 < 256) → (k : ℕ) → get_or (take n s) k 0 < 256
each_below zero s h k = omega arith
each_below (suc n) [] h k = omega arith
each_below (suc n) (x ∷ s) h zero = h 0
each_below (suc n) (x ∷ s) h (suc k) = each_below n s (λ j. h (suc j)) k

-- the bits of whole bytes
bits_bytes : (n : ℕ) (bs : List Bool) → length bs ≡ 8 * n → bits (bytes_from n bs) ≡ bs
unfolding bytes_from bits
bits_bytes zero [] h = refl
bits_bytes zero (b ∷ bs) h = absurd (omega arith)
bits_bytes (suc n) bs h =
    let l : 8 ≤ length bs = omega arith in
    ap₂ ◌++◌ (ap (to_bits 8) (next_whole bs l) ∙ to_from_at 8 (take 8 bs) (length-take-le 8 bs l)) (bits_bytes n (drop 8 bs) (length-drop 8 bs ∙ omega arith))
    ∙ take-append-drop 8 bs

-- ---- bits that are filled up

length_filled : (bs : List Bool) → length (bs ++ fill (length bs)) ≡ whole (length bs)
length_filled bs =
    length-append bs (fill (length bs)) ∙ ap (λ (k : ℕ). length bs + k) (length-replicate (whole (length bs) - length bs) false) ∙ omega arith

pub bits_packed : (bs : List Bool) → bits (bytes bs) ≡ bs ++ fill (length bs)
bits_packed bs =
    ap bits (sym (bytes_pad (byte_count (length bs)) bs (whole (length bs) - length bs))) ∙ bits_bytes (byte_count (length bs)) (bs ++ fill (length bs)) (length_filled bs)

pub length_bytes : (n : ℕ) (bs : List Bool) → length (bytes_from n bs) ≡ n
unfolding bytes_from
length_bytes zero bs = refl
length_bytes (suc n) bs = ap suc (length_bytes n (drop 8 bs))

-- bytes that begin with bits are those bits as bytes, and then what was there
pub begun_bytes : (bs : List Bool) (new old : List ℕ) → ((k : ℕ) → get_or new k 0 < 256) → byte_count (length bs) ≤ length new
    → Begun (byte_count (length bs)) bs old new → new ≡ bytes bs ++ drop (byte_count (length bs)) old
begun_bytes bs new old below fits b =
    let n = byte_count (length bs) in
    let len : n ≡ length (take n new) = sym (length-take-le n new fits) in
    let t : bytes bs ≡ take n new =
    sym (bytes_pad n bs (whole (length bs) - length bs)) ∙ ap₂ bytes_from len (sym b.front ∙ take_bits n new) ∙ bytes_bits (take n new) (each_below n new below) in
    sym (take-append-drop n new) ∙ ap₂ ◌++◌ (sym t) b.behind

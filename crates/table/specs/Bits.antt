-- Bits, most significant first: of a number, of bytes, and back. A bit that is 1 is true.
use Rattle.std.specs.Prelude.{ℕ, zero, suc, ◌+◌, ◌*◌, ◌/◌, ◌%◌, ◌^◌, Bool, true, false, List, [], ◌∷◌, ◌++◌, eqb, length, take, drop, replicate}

abbrev pub bit : Bool → ℕ
bit true = 1
bit false = 0

-- the w low bits of x
unfoldable pub to_bits : ℕ → ℕ → List Bool
to_bits zero x = []
to_bits (suc w) x = eqb (x / 2 ^ w % 2) 1 ∷ to_bits w x

-- the number that the bits are
unfoldable pub from_bits : List Bool → ℕ
from_bits [] = 0
from_bits (b ∷ bs) = bit b * 2 ^ length bs + from_bits bs

-- the bits of bytes
unfoldable pub bits : List ℕ → List Bool
bits [] = []
bits (x ∷ xs) = to_bits 8 x ++ bits xs

-- the next byte: eight bits, zero bits for those that are missing
abbrev pub next_byte : List Bool → ℕ
next_byte bs = from_bits (take 8 (bs ++ replicate 8 false))

unfoldable pub bytes_from : ℕ → List Bool → List ℕ
bytes_from zero bs = []
bytes_from (suc n) bs = next_byte bs ∷ bytes_from n (drop 8 bs)

-- how many bytes n bits take
abbrev pub byte_count : ℕ → ℕ
byte_count n = (n + 7) / 8

-- bits as bytes, the last byte filled up with zero bits
abbrev pub bytes : List Bool → List ℕ
bytes bs = bytes_from (byte_count (length bs)) bs

-- Bytes joined to a number, and numbers put into bytes at a bit place.
use Rattle.std.specs.Prelude.{◌≡◌, ℕ, ◌-◌, ◌*◌, ◌/◌, ◌%◌, ◌^◌, Bool, false, List, [], ◌∷◌, ◌++◌, length, take, drop, replicate}
use Rattle.table.specs.Bits.{bits, byte_count}

-- the last eight of the first n bytes; all of them where there are fewer
abbrev pub window : List ℕ → ℕ → List ℕ
window s n = drop (n - 8) (take n s)

-- a number as nine bytes, the first one highest
abbrev pub nine_byte : ℕ → ℕ → ℕ
nine_byte v k = v / 2 ^ (64 - 8 * k) % 256

abbrev pub nine : ℕ → List ℕ
nine v =
    nine_byte v 0 ∷ nine_byte v 1 ∷ nine_byte v 2 ∷ nine_byte v 3 ∷ nine_byte v 4 ∷ nine_byte v 5 ∷ nine_byte v 6 ∷ nine_byte v 7 ∷ nine_byte v 8 ∷ []

-- n bits, filled up to whole bytes
abbrev pub whole : ℕ → ℕ
whole n = 8 * byte_count n

-- the zero bits that fill n bits up
abbrev pub fill : ℕ → List Bool
fill n = replicate (whole n - n) false

-- out begins with the bits bs and zero bits up to a whole byte; from size on it is as in old
pub record Begun (size : ℕ) (bs : List Bool) (old out : List ℕ) : Type 0 where
  pub front : take (whole (length bs)) (bits out) ≡ bs ++ fill (length bs)
  pub behind : drop size out ≡ drop size old
  pub size_kept : length out ≡ length old

-- bits were put at a place, behind those that stood before it
abbrev pub Put : ℕ → ℕ → List Bool → List ℕ → List ℕ → Type 0
Put size at f out new = (bs : List Bool) (old : List ℕ) → length bs ≡ at → Begun size bs old out → Begun size (bs ++ f) old new

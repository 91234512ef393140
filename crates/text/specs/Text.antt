-- Numbers in decimal, and bytes written into a text.
use Rattle.std.specs.Prelude.{◌≡◌, ℕ, zero, suc, ◌+◌, ◌-◌, ◌/◌, ◌%◌, cond, List, [], ◌∷◌, ◌++◌, length, take, drop, replicate, ltb}

-- ASCII: line feed, space, a decimal digit
abbrev pub line_feed : ℕ
line_feed = 10

abbrev pub space : ℕ
space = 32

abbrev pub digit : ℕ → ℕ
digit n = 48 + n

-- at most k decimal digits of n, the leading ones not 0
unfoldable pub digits_in : ℕ → ℕ → List ℕ
digits_in zero n = []
digits_in (suc k) n = cond (ltb n 10) (digit n ∷ []) (digits_in k (n / 10) ++ (digit (n % 10) ∷ []))

-- n in decimal: it has at most n + 1 digits
unfoldable pub decimal : ℕ → List ℕ
decimal n = digits_in (suc n) n

-- n in decimal at the right end of w characters, blanks before it; it has more characters where n needs more
unfoldable pub right : ℕ → ℕ → List ℕ
right w n = replicate (w - length (decimal n)) space ++ decimal n

-- as many of the bytes as the text has room for from a place on
abbrev pub fitting : ℕ → List ℕ → List ℕ → List ℕ
fitting at bytes text = take (length text - at) bytes

-- bytes in a text from a place on, and the rest as it was
abbrev pub laid : ℕ → List ℕ → List ℕ → List ℕ
laid at bytes old = take at old ++ (bytes ++ drop (at + length bytes) old)

-- What writing bytes at a place answers, the place after those that have room, and leaves.
pub record Wrote (at : ℕ) (bytes old : List ℕ) (next : ℕ) (new : List ℕ) : Type 0 where
  pub place : next ≡ at + length (fitting at bytes old)
  pub text : new ≡ laid at (fitting at bytes old) old

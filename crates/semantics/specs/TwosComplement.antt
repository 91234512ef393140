-- Values as signed numbers: what makes equal, add and subtract suit as they are, and values worked out.
use Rattle.std.specs.Prelude.{◌≡◌, ℕ, ◌-◌, ◌%◌, ◌^◌, ◌≤◌, ℤ, pos, negsuc, ◌+ℤ◌, ◌-ℤ◌, ◌≤ℤ◌}
use Rattle.table.specs.Rows.{max_value, add, subtract, less, larger}
use Rattle.semantics.specs.Operators.{signed, apply}

-- The value that a number has: the number modulo 2 ^ 32. (negsuc n is −(n + 1).)
unfoldable pub wrapped : ℤ → ℕ
wrapped (pos n) = n % 2 ^ 32
wrapped (negsuc n) = 2 ^ 32 - 1 - n % 2 ^ 32

pub record Suits (x y : ℕ) : Type 0 where
  -- a value stands for a number from −2 ^ 31 to 2 ^ 31 − 1
  pub least : negsuc (2 ^ 31 - 1) ≤ℤ signed x
  pub most : signed x ≤ℤ pos (2 ^ 31 - 1)
  -- equal: values that stand for one number are one
  pub one_value : signed x ≡ signed y → x ≡ y
  -- add and subtract: the value of the numbers' sum or difference
  pub sum : apply add x y ≡ wrapped (signed x +ℤ signed y)
  pub difference : apply subtract x y ≡ wrapped (signed x -ℤ signed y)

abbrev pub TwosComplement : Type 0
TwosComplement = (x y : ℕ) → x ≤ max_value → y ≤ max_value → Suits x y

-- Values worked out: 0 subtract 1; the greatest value, which stands for −1, and 0; the two values between which the sign changes.
abbrev pub WorkedOut : Type 0
WorkedOut =
    (apply subtract 0 1 ≡ 4294967295)
    × (apply less 4294967295 0 ≡ 1)
    × (apply less 0 4294967295 ≡ 0)
    × (apply larger 4294967295 0 ≡ 0)
    × (apply larger 0 4294967295 ≡ 0)
    × (apply less 2147483647 2147483648 ≡ 0)
    × (apply less 2147483648 2147483647 ≡ 1)
    × (apply larger 2147483647 2147483648 ≡ 2147483647)
    × (apply larger 2147483648 2147483647 ≡ 2147483647)

-- Numbers right-aligned in a column. Assumes nothing.
use mathlib.Core.Path.{◌≡◌, ◌∙◌}
use Prim.Native.Nat.{ℕ, ◌-◌, ◌≤◌}
use native.Mathlib.Omega.{arith}
use lib.ListN.{length, replicate, length-append, length-replicate}
use Rattle.text.specs.Text.{space, decimal, right}

-- a number that fits its column fills it
pub right_length : (w n : ℕ) → length (decimal n) ≤ w → length (right w n) ≡ w
unfolding right
right_length w n h =
    length-append (replicate (w - length (decimal n)) space) (decimal n) ∙ omega (arith, length-replicate {A = ℕ} (w - length (decimal n)) space)

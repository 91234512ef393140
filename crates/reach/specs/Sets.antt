-- Sets of flows: by their test, and as the bits of a number.
use Rattle.std.specs.Prelude.{ℕ, zero, suc, ◌+◌, ◌*◌, ◌/◌, ◌%◌, ◌^◌, Bool, cond, ◌&&◌, eqb, ltb}
use Rattle.std.specs.Int.Bits.{bit_or}
use Rattle.table.specs.Bits.{bit}
use Rattle.table.specs.Rows.{max_flows}

-- a set of flows, by its test
abbrev pub Flows : Type 0
Flows = ℕ → Bool

-- the flows of a set that are below n as a number, the lowest bit for flow 0
unfoldable pub set_of : Flows → ℕ → ℕ
set_of s zero = 0
set_of s (suc n) = bit (s n) * 2 ^ n + set_of s n

-- flow g is in the set that the bits of x are; no table has a flow from max_flows on
unfoldable pub has : ℕ → Flows
has x g = ltb g max_flows && eqb (x / 2 ^ g % 2) 1

-- a set, and flow x with it where the test is passed
abbrev pub with_flow : ℕ → Bool → ℕ → ℕ
with_flow set on x = cond (on && ltb x max_flows) (bit_or set (2 ^ x)) set

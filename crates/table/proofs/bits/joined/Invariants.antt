use mathlib.Core.Path.{◌≡◌}
use lib.ListN.{take}
use Rattle.table.specs.Bits.{from_bits, bits}
use Rattle.table.proofs.bits.joined.Given as goal

abbrev pub invariant-loop-byte : goal.invariant-loop-byte
invariant-loop-byte l = l.x ≡ from_bits (bits (take l.byte-index l.bytes))

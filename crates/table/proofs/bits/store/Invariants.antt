use mathlib.Core.Path.{◌≡◌}
use Prim.Native.Nat.{◌+◌, ◌*◌}
use lib.Seq.{paste}
use Rattle.table.specs.Private.Laid.{nine}
use Rattle.table.proofs.bits.store.Given as goal

abbrev pub invariant-loop-k : goal.invariant-loop-k
invariant-loop-k l = l.out ≡ paste l.initial.out 0 (nine (l.x * 256 + l.y)) l.k

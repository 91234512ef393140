use mathlib.Core.Path.{◌≡◌}
use Prim.Native.Nat.{◌+◌, ◌*◌, ◌≤◌}
use lib.ListN.{length}
use Rattle.table.specs.Places.{longest_record}
use Rattle.table.proofs.WriteLaws.{Putting}
use Rattle.table.proofs.pack.put_table.Given as goal

abbrev pub invariant-loop-row : goal.invariant-loop-row
invariant-loop-row l = (l.cursor.at ≤ 8 + longest_record * l.row) × (length l.out ≡ length l.fn.out) × Putting l.count l.row l.cursor.at (length l.fn.out) l.words l.out l.initial.out

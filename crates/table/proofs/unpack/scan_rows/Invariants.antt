use mathlib.Core.Path.{◌≡◌}
use Prim.Native.Nat.{◌+◌, ◌*◌, ◌≤◌}
use lib.ListN.{length, set}
use Rattle.table.specs.Places.{longest_record}
use Rattle.table.specs.Bits.{bits}
use Rattle.table.specs.Private.Codes.{bounds}
use Rattle.table.proofs.StoreLaws.{Unpacking}
use Rattle.table.proofs.unpack.scan_rows.Given as goal

-- the place and the words are those of the rows so far; with the row's number at place 0, the list of bounds is that of the row
abbrev pub invariant-loop-row : goal.invariant-loop-row
invariant-loop-row l = (l.cursor.at ≤ 8 + longest_record * l.row) × (l.cursor.at ≤ length (bits l.s)) × (length l.words ≡ length l.initial.words)
    × (set l.bound 0 l.row ≡ bounds l.count l.row) × Unpacking (bits l.s) l.count l.row l.cursor.at l.words

use mathlib.Core.Path.{◌≡◌}
use Prim.Native.Nat.{◌+◌, ◌-◌, ◌*◌, ◌≤◌}
use lib.ListN.{length, drop, set}
use Rattle.table.specs.Answers.{answer}
use Rattle.table.specs.Rows.{row_size}
use Rattle.table.specs.Plain.{split, rows_from}
use Rattle.table.specs.Packed.{rows_bits}
use Rattle.table.specs.Places.{longest_record}
use Rattle.table.specs.Private.Codes.{bounds}
use Rattle.table.proofs.plain.survey_rows.Given as goal

abbrev pub invariant-loop-row : goal.invariant-loop-row
invariant-loop-row l = (l.bits ≤ 8 + longest_record * l.row) × (set l.bound 0 l.row ≡ bounds l.count l.row)
    × (answer (λ rs. l.count) (rows_from l.rated l.count l.row (split (l.count - l.row) (drop (row_size * l.row) l.words)))
    ≡ answer (λ rs. l.count) (rows_from l.rated l.count 0 (split l.count l.words)))
    × (l.bits + length (rows_bits (split (l.count - l.row) (drop (row_size * l.row) l.words))) ≡ 8 + length (rows_bits (split l.count l.words)))

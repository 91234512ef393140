-- The clocks of a packed table: what reading and then the check come to.
use Rattle.std.specs.Prelude.{ℕ, ◌*◌, List, length}
use Rattle.table.specs.declared.Answer.{Answer}
use Rattle.table.specs.Answers.{Result, then, answer, leaves}
use Rattle.table.specs.Rows.{max_flows}
use Rattle.table.specs.Plain.{joined}
use Rattle.table.specs.Packed.{unpacked}
use Rattle.checker.specs.Clocks.{Clock}
use Rattle.checker.specs.Answers.{clock_size, clocks_words, checking}

-- where there is room for so many words of clocks
unfoldable pub checked_in : List ℕ → ℕ → Result (List Clock)
checked_in packed room = then (unpacked packed) λ ws. checking (length ws) (joined ws) room

-- with room for the clocks of any table
abbrev pub checked : List ℕ → Result (List Clock)
checked packed = checked_in packed (clock_size * max_flows)

abbrev pub packed_answer : List ℕ → ℕ → Answer
packed_answer packed room = answer length (checked_in packed room)

abbrev pub packed_after : List ℕ → List ℕ → List ℕ
packed_after packed old = leaves clocks_words (checked_in packed (length old)) old

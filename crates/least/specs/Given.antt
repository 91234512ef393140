-- Wish 6, over what a caller sees: the answer's number and count, and the words that a call leaves. Proved in proofs/Given.
use Rattle.std.specs.Prelude.{◌≡◌, ℕ, ◌*◌, ◌≤◌, ◌<◌, List, length}
use Rattle.table.specs.declared.refusal.Refusal.TheVariants.{ClocksDiffer}
use Rattle.table.specs.Answers.{good, number, over, success}
use Rattle.table.specs.Rows.{Row, row_size}
use Rattle.table.specs.Plain.{table_of, joined}
use Rattle.checker.specs.Answers.{check_number}
use Rattle.reach.specs.Sets.{Flows}
use Rattle.least.specs.Parts.{part_rows, part_flows, part_count, LeastPart}
use Rattle.least.specs.Answers.{least_answer, part_after, flows_answer, flows_after}

pub record Given : Type 0 where
  -- a table that the check answers with 21 has a least part
  pub there :
      (m : ℕ) (words : List ℕ) (rows : List Row) → table_of m words ≡ good rows → check_number m words ≡ number ClocksDiffer
      → (s : Flows) × LeastPart m words s
  -- and no other
  pub only :
      (m : ℕ) (words : List ℕ) (rows : List Row) (s t : Flows) → table_of m words ≡ good rows → LeastPart m words s → LeastPart m words t
      → (f : ℕ) → f < m → s f ≡ t f
  -- where there is room for its rows, the call counts its flows and leaves its rows, from the first word on
  pub rows :
      (m : ℕ) (words old : List ℕ) (plan : List Row) (s : Flows) → table_of m words ≡ good plan → check_number m words ≡ number ClocksDiffer
      → LeastPart m words s → row_size * part_count m s ≤ length old
      → (least_answer m words (length old) ≡ success (part_count m s)) × (part_after m words old ≡ over (joined (part_rows m words s)) old)
  -- and the other call the numbers that its flows have in the plan
  pub flows :
      (m : ℕ) (words old : List ℕ) (plan : List Row) (s : Flows) → table_of m words ≡ good plan → check_number m words ≡ number ClocksDiffer
      → LeastPart m words s → part_count m s ≤ length old
      → (flows_answer m words (length old) ≡ success (part_count m s)) × (flows_after m words old ≡ over (part_flows m s) old)

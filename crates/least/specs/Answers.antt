-- How the least part is found, and what the calls answer and leave. That it is the least part is proved in proofs/LeastParts.
use Rattle.std.specs.Prelude.{ℕ, zero, suc, ◌+◌, ◌*◌, Bool, cond, ◌&&◌, List, eqb, leb, ltb, length}
use Rattle.table.specs.declared.Answer.{Answer}
use Rattle.table.specs.declared.refusal.Refusal.TheVariants.{NoRoom, ClocksDiffer, NotDiffering}
use Rattle.table.specs.Answers.{Result, good, unless, then, answer, leaves, number}
use Rattle.table.specs.Rows.{Words, row_size, max_flows}
use Rattle.table.specs.Plain.{joined, table_of}
use Rattle.checker.specs.Answers.{check_number}
use Rattle.reach.specs.Sets.{Flows}
use Rattle.reach.specs.Reach.{closure}
use Rattle.least.specs.Parts.{part_count, part_rows, part_flows}

-- the check answers the plan with 21
abbrev pub differing : ℕ → List ℕ → Bool
differing m words = eqb (check_number m words) (number ClocksDiffer)

-- the closure of flow f: how many flows it has, and whether the check answers it with 21
abbrev pub drawn_count : ℕ → List ℕ → ℕ → ℕ
drawn_count m words f = part_count m (closure m words f)

abbrev pub drawn_differs : ℕ → List ℕ → ℕ → Bool
drawn_differs m words f = differing (drawn_count m words f) (joined (part_rows m words (closure m words f)))

-- a flow, and how many flows its closure has
pub record Best : Type 0 where
  pub flow : ℕ
  pub count : ℕ

-- flow f where its closure has fewer flows and is answered with 21, else the one before
abbrev pub better : ℕ → List ℕ → ℕ → Best → Best
better m words f b =
    cond (ltb (drawn_count m words f) b.count && drawn_differs m words f) (record { flow = f; count = drawn_count m words f }) b

-- the first of the flows below f with fewest flows in a closure that is answered with 21; a count that no plan has where there is none
unfoldable pub best : ℕ → List ℕ → ℕ → Best
best m words zero = record { flow = 0; count = max_flows + 1 }
best m words (suc f) = better m words f (best m words f)

abbrev pub least_flow : ℕ → List ℕ → ℕ
least_flow m words = (best m words m).flow

abbrev pub least_set : ℕ → List ℕ → Flows
least_set m words = closure m words (least_flow m words)

-- the flows of the least part, or the first refusal
unfoldable pub seeking : ℕ → List ℕ → Result Flows
seeking m words = then (table_of m words) λ rows. unless (differing m words) NotDiffering 0 (good (least_set m words))

-- what a call comes to that makes something of the least part, of a size a flow, where there is room for so many words
unfoldable pub offering : {A : Type 0} → ℕ → (Flows → List A) → ℕ → List ℕ → ℕ → Result (List A)
offering size make m words room = then (seeking m words) λ s. unless (leb (size * part_count m s) room) NoRoom 0 (good (make s))

-- the two calls: the rows of the least part, and the numbers that its flows have in the plan
abbrev pub leasting : ℕ → List ℕ → ℕ → Result (List Words)
leasting m words room = offering row_size (part_rows m words) m words room

abbrev pub numbering : ℕ → List ℕ → ℕ → Result (List ℕ)
numbering m words room = offering 1 (part_flows m) m words room

abbrev pub least_answer : ℕ → List ℕ → ℕ → Answer
least_answer m words room = answer length (leasting m words room)

abbrev pub part_after : ℕ → List ℕ → List ℕ → List ℕ
part_after m words old = leaves joined (leasting m words (length old)) old

abbrev pub flows_answer : ℕ → List ℕ → ℕ → Answer
flows_answer m words room = answer length (numbering m words room)

abbrev pub flows_after : ℕ → List ℕ → List ℕ → List ℕ
flows_after m words old = leaves (λ (flows : List ℕ). flows) (numbering m words (length old)) old

-- The steps of the search.
use Rattle.std.specs.Prelude.{◌≡◌, ℕ, ◌+◌, ◌≤◌, Bool, cond, List, Option, MatchOption}
use Rattle.table.specs.declared.refusal.Refused.{Refused}
use Rattle.table.specs.Answers.{good, refused, named}
use Rattle.table.specs.Rows.{max_flows}
use Rattle.table.specs.Plain.{joined, table_of, rows_in}
use Rattle.reach.specs.Sets.{set_of, has}
use Rattle.reach.specs.Reach.{closure}
use Rattle.least.specs.Parts.{below, part_rows}
use Rattle.least.specs.Answers.{differing, drawn_count, Best, best, least_set, seeking}

-- a field with its number in the set where it is a flow
abbrev pub moved : ℕ → Bool → ℕ → ℕ
moved set on x = cond on (below (has set) x) x

-- the check answers the part of these flows with 21
abbrev pub part_differing : ℕ → List ℕ → ℕ → Bool
part_differing m words x = differing (below (has x) m) (joined (part_rows m words (has x)))

-- the closure of the best of the flows below f as a number, where there is one
abbrev pub Chosen : ℕ → List ℕ → ℕ → Option ℕ → Type 0
Chosen m words f o =
    let b : Best = best m words f in
    MatchOption o (b.count ≡ max_flows + 1) (λ x. (x ≡ set_of (closure m words b.flow) m) × (b.count ≡ drawn_count m words b.flow))

-- the set of the least part's flows, or the refusal
pub record Giving (m : ℕ) (words : List ℕ) (set : ℕ) : Type 0 where
  pub table : table_of m words ≡ good (rows_in (table_of m words))
  pub few : m ≤ max_flows
  pub comes : seeking m words ≡ good (least_set m words)
  pub is : set ≡ set_of (least_set m words) m

pub record Refusing (m : ℕ) (words : List ℕ) (r : Refused) : Type 0 where
  pub comes : seeking m words ≡ refused r.why r.flow
  pub is : r ≡ named r.why r.flow

-- Flows that a row joins, and chains of them to a rated flow. A draft is its count of flows and its plain words.
use Rattle.std.specs.Prelude.{◌≡◌, ℕ, ◌<◌, Bool, true, cond, ◌||◌, List, leb}
use Rattle.table.specs.Answers.{good}
use Rattle.table.specs.Rows.{Row, Words, kind_at, first_view}
use Rattle.table.specs.Plain.{row_words, draft_of}
use Rattle.table.specs.Links.{field_names, names}
use Rattle.reach.specs.Sets.{Flows}
use Rattle.reach.specs.Reach.{Leads}

-- A row joins its result with each flow that it names, operands, beat and source; a view (kinds 17 and 18) joins it with its first operand only.
abbrev pub row_joins : Words → Flows
row_joins w x = cond (leb first_view w.kind) (field_names (kind_at w.kind).one w.one x) (names w x)

-- the flows with which row f joins its result
abbrev pub joined_by : List ℕ → ℕ → Flows
joined_by words f g = row_joins (row_words words f) g

-- two flows are joined when the row of one joins it with the other
abbrev pub joins : List ℕ → ℕ → Flows
joins words a b = joined_by words a b || joined_by words b a

-- kinds 0 and 1: an input with its rate written, and a constant
abbrev pub rated : Words → Bool
rated w = leb w.kind 1

-- a chain joins the flow to a rated one
pub record Chained (m : ℕ) (words : List ℕ) (f : ℕ) : Type 0 where
  pub from : ℕ
  pub in_plan : from < m
  pub is_rated : rated (row_words words from) ≡ true
  pub chain : Leads (joins words) from f

-- a draft that is not refused, each flow of it on such a chain
pub record Joined (m : ℕ) (words : List ℕ) : Type 0 where
  pub rows : List Row
  pub draft : draft_of m words ≡ good rows
  pub chains : (f : ℕ) → f < m → Chained m words f

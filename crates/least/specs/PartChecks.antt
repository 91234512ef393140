-- Why a part tells what the plan does: the check of a part gives each of its flows the clock that it has in the plan, or refuses the flow that it
-- refuses in the plan, for the same cause. Proved in proofs/PartChecks.
use Rattle.std.specs.Prelude.{◌≡◌, ℕ, ◌≤◌, ◌<◌, true, List, map}
use Rattle.table.specs.declared.refusal.Refusal.{Refusal}
use Rattle.table.specs.declared.refusal.Refusal.TheVariants.{ClocksDiffer}
use Rattle.table.specs.Answers.{Result, good, refused}
use Rattle.table.specs.Rows.{Row}
use Rattle.table.specs.Tables.{row_at}
use Rattle.table.specs.Plain.{table_of, joined}
use Rattle.checker.specs.Clocks.{Condition, Clock}
use Rattle.checker.specs.Rules.{clock_of, clock_at, clocks_of}
use Rattle.checker.specs.Answers.{clocks_for}
use Rattle.reach.specs.Sets.{Flows}
use Rattle.reach.specs.Reach.{closure}
use Rattle.least.specs.Parts.{Part, below, chosen, part_count, part_rows, Differs, LeastPart}

-- a clock with the flows of its conditions renumbered
abbrev pub move_condition : (ℕ → ℕ) → Condition → Condition
move_condition ρ c = record { flow = ρ c.flow; truth = c.truth; view = c.view }

abbrev pub move_clock : (ℕ → ℕ) → Clock → Clock
move_clock ρ k = record { period = k.period; phase = k.phase; conditions = map (move_condition ρ) k.conditions }

-- what a rule comes to, renumbered
abbrev pub move_result : (ℕ → ℕ) → Result Clock → Result Clock
move_result ρ (good k) = good (move_clock ρ k)
move_result ρ (refused why f) = refused why (ρ f)

-- the clocks of a part's flows, renumbered
abbrev pub part_clocks : ℕ → Flows → List Clock → List Clock
part_clocks m s ks = chosen s (λ f. move_clock (below s) (clock_at ks f)) m

-- what the check says of a part, given room
abbrev pub checked_part : ℕ → List ℕ → Flows → Result (List Clock)
checked_part m words s = clocks_for (part_count m s) (joined (part_rows m words s))

pub record PartChecks : Type 0 where
  -- Row by row. Let the part's flows below f have clocks in the plan, and in the part the same, renumbered. Then flow f has in the part the clock, or
  -- the refusal, that it has in the plan.
  pub row :
      (m : ℕ) (words : List ℕ) (s : Flows) (rows rows' : List Row) → table_of m words ≡ good rows → Part m words s
      → table_of (part_count m s) (joined (part_rows m words s)) ≡ good rows' → (clk clk' : ℕ → Clock) (f : ℕ) → f < m → s f ≡ true
      → ((a : ℕ) → a < f → s a ≡ true → clock_of clk a (row_at rows a) ≡ good (clk a)) → ((a : ℕ) → a < f → s a ≡ true → clk' (below s a) ≡ move_clock (below s) (clk a))
      → clock_of clk' (below s f) (row_at rows' (below s f)) ≡ move_result (below s) (clock_of clk f (row_at rows f))
  -- The whole check. Of a plan that it accepts, each part with a flow in it is accepted, with the clocks that its flows have in the plan.
  pub accepted :
      (m : ℕ) (words : List ℕ) (ks : List Clock) (s : Flows) → clocks_for m words ≡ good ks → Part m words s → 1 ≤ part_count m s
      → checked_part m words s ≡ good (part_clocks m s ks)
  -- Of a plan that it refuses, each part with the flow that is named is refused for the same cause, that flow being named.
  pub turned_down :
      (m : ℕ) (words : List ℕ) (rows : List Row) (why : Refusal) (g : ℕ) (s : Flows) → table_of m words ≡ good rows → clocks_of rows ≡ refused why g
      → Part m words s → s g ≡ true → checked_part m words s ≡ refused why (below s g)
  -- So the closure of the flow that a 21 names is answered with 21 itself,
  pub named :
      (m : ℕ) (words : List ℕ) (rows : List Row) (g : ℕ) → table_of m words ≡ good rows → clocks_of rows ≡ refused ClocksDiffer g
      → Differs m words (closure m words g)
  -- and the least part is the closure of a single flow.
  pub single :
      (m : ℕ) (words : List ℕ) (rows : List Row) (s : Flows) → table_of m words ≡ good rows → (least : LeastPart m words s)
      → (f : ℕ) → f < m → s f ≡ closure m words least.flow f

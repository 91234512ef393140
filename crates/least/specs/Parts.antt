-- A part of a plan, and the least part that the check still answers with 21. A plan is its count of flows and its plain words.
use Rattle.std.specs.Prelude.{◌≡◌, ℕ, zero, suc, ◌+◌, ◌≤◌, ◌<◌, true, cond, List, [], ◌∷◌, ◌++◌}
use Rattle.table.specs.declared.refusal.Refusal.TheVariants.{ClocksDiffer}
use Rattle.table.specs.Answers.{number}
use Rattle.table.specs.Bits.{bit}
use Rattle.table.specs.Rows.{Field, Kind, kind_at, Words}
use Rattle.table.specs.Plain.{row_words, joined}
use Rattle.table.specs.Links.{is_flow}
use Rattle.checker.specs.Answers.{check_number}
use Rattle.reach.specs.Sets.{Flows}
use Rattle.reach.specs.Reach.{named, Leads}

-- A part of a plan is a set of its flows that has, with a flow, all its operands, beats and sources.
abbrev pub Part : ℕ → List ℕ → Flows → Type 0
Part m words s = (f g : ℕ) → f < m → s f ≡ true → named words f g ≡ true → s g ≡ true

-- Its flows are renumbered in order: the number of flow f is how many flows of the set are below f.
unfoldable pub below : Flows → ℕ → ℕ
below s zero = 0
below s (suc f) = below s f + bit (s f)

abbrev pub renumbered : Flows → Field → ℕ → ℕ
renumbered s t x = cond (is_flow t) (below s x) x

unfoldable pub renumbered_row : Flows → Words → Words
renumbered_row s w =
    let k : Kind = kind_at w.kind in
    record { kind = w.kind; one = renumbered s k.one w.one; two = renumbered s k.two w.two; three = renumbered s k.three w.three }

-- what a function gives of each flow of the set that is below n, in order
unfoldable pub chosen : {A : Type 0} → Flows → (ℕ → A) → ℕ → List A
chosen s make zero = []
chosen s make (suc f) = cond (s f) (chosen s make f ++ (make f ∷ [])) (chosen s make f)

-- the part of a plan: its count of flows, its rows, and the numbers that its flows have in the plan
abbrev pub part_count : ℕ → Flows → ℕ
part_count m s = below s m

abbrev pub part_rows : ℕ → List ℕ → Flows → List Words
part_rows m words s = chosen s (λ f. renumbered_row s (row_words words f)) m

abbrev pub part_flows : ℕ → Flows → List ℕ
part_flows m s = chosen s (λ f. f) m

-- the check answers the part with 21
abbrev pub Differs : ℕ → List ℕ → Flows → Type 0
Differs m words s = check_number (part_count m s) (joined (part_rows m words s)) ≡ number ClocksDiffer

-- a set is drawn from a single flow of it, which leads to all the rest
pub record Drawn (m : ℕ) (words : List ℕ) (s : Flows) (f : ℕ) : Type 0 where
  pub in_plan : f < m
  pub inside : s f ≡ true
  pub leads : (g : ℕ) → g < m → s g ≡ true → Leads (named words) f g

-- WISH 6. The part with fewest flows that the check still answers with 21: each other part so answered has at least as many. Among equals, the one
-- drawn from the lowest single flow that leads to all the rest.
pub record LeastPart (m : ℕ) (words : List ℕ) (s : Flows) : Type 0 where
  pub part : Part m words s
  pub differs : Differs m words s
  pub fewest : (t : Flows) → Part m words t → Differs m words t → part_count m s ≤ part_count m t
  pub flow : ℕ
  pub drawn : Drawn m words s flow
  pub lowest :
      (t : Flows) (g : ℕ) → Part m words t → Differs m words t → part_count m t ≡ part_count m s → Drawn m words t g → flow ≤ g

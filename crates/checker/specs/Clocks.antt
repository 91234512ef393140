-- Clocks: a period, a phase and conditions.
use Rattle.std.specs.Prelude.{ℕ, Bool, true, false, ◌&&◌, List, [], ◌∷◌, ◌++◌, eqb}
use Rattle.std.specs.Bool.{beq}

-- a flow, its truth (present and not 0, or present and 0), and the view period at which it is looked at, 0 when it is sampled directly
pub record Condition : Type 0 where
  pub flow : ℕ
  pub truth : Bool
  pub view : ℕ

-- conditions in order of sampling
pub record Clock : Type 0 where
  pub period : ℕ
  pub phase : ℕ
  pub conditions : List Condition

-- a clock without conditions: plain is the paper's word for a strictly periodic clock
abbrev pub every : ℕ → ℕ → Clock
every n p = record { period = n; phase = p; conditions = [] }

abbrev pub is_empty : List Condition → Bool
is_empty [] = true
is_empty (c ∷ cs) = false

abbrev pub plain : Clock → Bool
plain k = is_empty k.conditions

-- Two clocks are equal when all of that is equal, conditions in the same order.
abbrev pub same_conditions : List Condition → List Condition → Bool
same_conditions [] [] = true
same_conditions [] (d ∷ ds) = false
same_conditions (c ∷ cs) [] = false
same_conditions (c ∷ cs) (d ∷ ds) =
    eqb c.flow d.flow && (beq c.truth d.truth && (eqb c.view d.view && same_conditions cs ds))

abbrev pub same_clock : Clock → Clock → Bool
same_clock j k =
    eqb j.period k.period && (eqb j.phase k.phase && same_conditions j.conditions k.conditions)

-- a clock with one more, last, condition: flow c has the truth u, seen with view period w
abbrev pub under : Clock → ℕ → Bool → ℕ → Clock
under k c u w =
    record {
      period = k.period;
      phase = k.phase;
      conditions = k.conditions ++ (record { flow = c; truth = u; view = w } ∷ []);
    }

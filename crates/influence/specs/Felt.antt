-- Which inputs a flow feels: the input rows from which it can be reached through operands, beats, sources and conditions. And what the call
-- answers and leaves.
use Rattle.std.specs.Prelude.{◌≡◌, ℕ, ◌<◌, true, false, ◌&&◌, ◌||◌, List, [], ◌∷◌, eqb, leb, length}
use Rattle.table.specs.declared.Answer.{Answer}
use Rattle.table.specs.declared.refusal.Refusal.TheVariants.{NoRoom}
use Rattle.table.specs.Answers.{Result, good, unless, then, answer, leaves}
use Rattle.table.specs.Plain.{row_words, per_flow}
use Rattle.checker.specs.Clocks.{Condition, Clock}
use Rattle.checker.specs.Rules.{clock_at}
use Rattle.checker.specs.Answers.{clocks_for}
use Rattle.reach.specs.Sets.{Flows, set_of}
use Rattle.reach.specs.Reach.{named, Leads, through}

-- one of the conditions is on flow g
unfoldable pub condition_on : List Condition → Flows
condition_on [] g = false
condition_on (c ∷ cs) g = eqb c.flow g || condition_on cs g

-- Flow f rests on flow g: its row names g as operand, beat or source, or its clock, one of ks, has a condition on g.
unfoldable pub rests : List ℕ → List Clock → ℕ → Flows
rests words ks f g = named words f g || condition_on (clock_at ks f).conditions g

-- row i is an input: kind 0
abbrev pub input_at : List ℕ → Flows
input_at words i = eqb (row_words words i).kind 0

-- Flow f feels row i of a plan of m flows: an input from which f can be reached, so that f leads to it by what each flow rests on. The
-- standard term is f's cone of influence, of which these are the inputs.
pub record Feels (m : ℕ) (words : List ℕ) (ks : List Clock) (f i : ℕ) : Type 0 where
  pub flow : i < m
  pub input : input_at words i ≡ true
  pub reached : Leads (rests words ks) f i

-- the same worked out
unfoldable pub feels : ℕ → List ℕ → List Clock → ℕ → Flows
feels m words ks f i = input_at words i && through (rests words ks) m f i

-- for each flow below n the set of the rows that it feels, the lowest bit for row 0
abbrev pub felt_sets : ℕ → List ℕ → List Clock → ℕ → List ℕ
felt_sets m words ks = per_flow (λ f. set_of (feels m words ks f) m)

-- what the call comes to where there is room for so many sets
unfoldable pub feeling : ℕ → List ℕ → ℕ → Result (List ℕ)
feeling m words room = then (clocks_for m words) λ ks. unless (leb m room) NoRoom 0 (good (felt_sets m words ks m))

abbrev pub felt_answer : ℕ → List ℕ → ℕ → Answer
felt_answer m words room = answer length (feeling m words room)

abbrev pub felt_after : ℕ → List ℕ → List ℕ → List ℕ
felt_after m words old = leaves (λ (sets : List ℕ). sets) (feeling m words (length old)) old

-- The flows to which a flow leads, through operands, beats and sources: reachability. And what the call answers and leaves.
use Rattle.std.specs.Prelude.{◌≡◌, ℕ, zero, suc, true, ◌&&◌, ◌||◌, List, eqb, leb, length}
use Rattle.table.specs.declared.Answer.{Answer}
use Rattle.table.specs.declared.refusal.Refusal.TheVariants.{NoRoom}
use Rattle.table.specs.Answers.{Result, good, unless, then, answer, leaves}
use Rattle.table.specs.Plain.{row_words, table_of, per_flow}
use Rattle.table.specs.Links.{names}
use Rattle.reach.specs.Sets.{Flows, set_of}

-- the flows that row f names as operand, beat or source
abbrev pub named : List ℕ → ℕ → Flows
named words f g = names (row_words words f) g

-- By some steps, a flow leads to itself, and from each flow to which it leads one step further.
pub data Leads (step : ℕ → Flows) (f : ℕ) : ℕ → Type 0 where
  itself : Leads step f f
  onward : (g h : ℕ) → Leads step f g → step g h ≡ true → Leads step f h

-- The same worked out, after Warshall: in one step at most, or through flows below k.
unfoldable pub through : (ℕ → Flows) → ℕ → ℕ → Flows
through step zero f g = eqb f g || step f g
through step (suc k) f g = through step k f g || (through step k f k && through step k k g)

-- the closure of a flow: the flows to which it leads, in a plan of m flows
abbrev pub closure : ℕ → List ℕ → ℕ → Flows
closure m words f = through (named words) m f

-- the closures of the flows below n
abbrev pub sets_of : ℕ → List ℕ → ℕ → List ℕ
sets_of m words = per_flow (λ f. set_of (closure m words f) m)

-- what the call comes to where there is room for so many sets
unfoldable pub reaching : ℕ → List ℕ → ℕ → Result (List ℕ)
reaching m words room = then (table_of m words) λ rows. unless (leb m room) NoRoom 0 (good (sets_of m words m))

abbrev pub reach_answer : ℕ → List ℕ → ℕ → Answer
reach_answer m words room = answer length (reaching m words room)

abbrev pub sets_after : ℕ → List ℕ → List ℕ → List ℕ
sets_after m words old = leaves (λ (sets : List ℕ). sets) (reaching m words (length old)) old

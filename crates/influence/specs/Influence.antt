-- What the sets say of runs, over what a caller sees: the answers' numbers, the sets, the words that the check wrote, the logs, and the marks
-- and values that the runs left. Proved in proofs/Influence.
use Rattle.std.specs.Prelude.{◌≡◌, ◌↔◌, ℕ, ◌+◌, ◌*◌, ◌≤◌, ◌<◌, true, List, length, get_or}
use Rattle.table.specs.Answers.{good}
use Rattle.table.specs.Plain.{table_of, rows_in}
use Rattle.checker.specs.Clocks.{Clock}
use Rattle.checker.specs.Answers.{clocks_for, clocks_after}
use Rattle.reach.specs.Sets.{has}
use Rattle.reach.specs.Reach.{named, Leads}
use Rattle.semantics.specs.Runs.{word}
use Rattle.semantics.specs.Answers.{max_ticks, marks_after, values_after}
use Rattle.calendar.specs.Calendar.{clock_word, cell_at, Accepts, Asked}
use Rattle.influence.specs.Felt.{rests, Feels, felt_answer, felt_after}

-- row i is in the set that the call left of flow f
abbrev pub InSet : List ℕ → ℕ → ℕ → Type 0
InSet sets f i = has (get_or sets f 0) i ≡ true

-- two logs agree on row i at its own ticks up to t: its phase plus whole periods, by the words of the check
abbrev pub AgreeOn : ℕ → List ℕ → List ℕ → ℕ → List ℕ → List ℕ → ℕ → Type 0
AgreeOn m words clocks t log log' i =
    (u j : ℕ) → u ≡ clock_word clocks i 1 + j * clock_word clocks i 0 → u ≤ t
    → word (rows_in (table_of m words)) log u i ≡ word (rows_in (table_of m words)) log' u i

-- A plan that the check accepts, one of its flows, and two logs that agree on the inputs of the flow's set, at their own ticks up to t. The check
-- wrote into clocks, and the call into sets.
pub record Agreeing (m : ℕ) (words clocks sets : List ℕ) (t : ℕ) (log log' : List ℕ) (f : ℕ) : Type 0 where
  pub accepted : Accepts m words clocks
  pub given : (felt_answer m words (length sets)).number ≡ 0
  pub flow : f < m
  pub agree : (i : ℕ) → InSet (felt_after m words sets) f i → AgreeOn m words (clocks_after m words clocks) t log log' i

-- a run of more than t ticks, with the lengths that it asks for
pub record Run (m : ℕ) (words : List ℕ) (t : ℕ) : Type 0 where
  pub log : List ℕ
  pub ticks : ℕ
  pub marks : List ℕ
  pub values : List ℕ
  pub longer : t < ticks
  pub few : ticks ≤ max_ticks
  pub asked : Asked m words log ticks marks values

-- flow f's mark and value at tick u, as the run left them
module _ {m : ℕ} {words : List ℕ} {t : ℕ} where
  abbrev pub mark_at : Run m words t → ℕ → ℕ → ℕ
  mark_at r u f = cell_at m (marks_after m words r.log r.ticks r.marks r.values) u f

  abbrev pub value_at : Run m words t → ℕ → ℕ → ℕ
  value_at r u f = cell_at m (values_after m words r.log r.ticks r.marks r.values) u f

pub record Influence : Type 0 where
  -- the call answers 0 for each plan that the check accepts, where there is a set a flow
  pub given : (m : ℕ) (words clocks sets : List ℕ) → Accepts m words clocks → m ≤ length sets → (felt_answer m words (length sets)).number ≡ 0
  -- flow f's set has exactly the input rows from which f can be reached
  pub exact :
      (m : ℕ) (words sets : List ℕ) → (felt_answer m words (length sets)).number ≡ 0 → (ks : List Clock) → clocks_for m words ≡ good ks
      → (f i : ℕ) → f < m → InSet (felt_after m words sets) f i ↔ Feels m words ks f i
  -- conditions add nothing to what operands, beats and sources lead to
  pub by_rows :
      (m : ℕ) (words : List ℕ) (ks : List Clock) → clocks_for m words ≡ good ks
      → (f g : ℕ) → f < m → Leads (rests words ks) f g ↔ Leads (named words) f g
  -- WISH 13: two runs of more than t ticks, over logs that agree so, give the flow the same marks and values up to t
  pub same :
      (m : ℕ) (words clocks sets : List ℕ) (t : ℕ) (r r' : Run m words t) (f : ℕ) → Agreeing m words clocks sets t r.log r'.log f
      → (u : ℕ) → u ≤ t → (mark_at r u f ≡ mark_at r' u f) × (value_at r u f ≡ value_at r' u f)

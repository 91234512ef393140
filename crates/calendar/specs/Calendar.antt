-- Demand 3: check and run share one calendar. It is stated over what a caller sees: the answers' numbers, the words that the
-- check wrote, the log, the lengths, and the marks and values that the run left.
use Rattle.std.specs.Prelude.{◌≡◌, ◌↔◌, ◌⊎◌, ℕ, zero, suc, ◌+◌, ◌*◌, ◌-◌, ◌/◌, ◌≤◌, ◌<◌, Bool, true, cond, ◌&&◌, ◌||◌, not, List, length, get_or, eqb, leb}
use Rattle.table.specs.declared.refusal.Refusal.TheVariants.{ClocksDiffer}
use Rattle.table.specs.Answers.{number}
use Rattle.table.specs.Plain.{row_words, table_of, rows_in}
use Rattle.checker.specs.Rules.{max_derived}
use Rattle.checker.specs.Answers.{clock_size, check_answer, clocks_after}
use Rattle.semantics.specs.Runs.{inputs}
use Rattle.semantics.specs.Answers.{max_ticks, run_answer, marks_after, values_after}

-- Word i of the clock that the check wrote for flow f: period, phase, how many conditions, from 3 on the conditions' words, and from 7
-- on their view periods.
abbrev pub clock_word : List ℕ → ℕ → ℕ → ℕ
clock_word clocks f i = get_or clocks (clock_size * f + i) 0

-- The tick at which a flow with phase p reads, for tick t, a condition on a flow with phase q: t itself where it is sampled directly (view
-- period 0). With a view period w, as far after q as the latest tick not past t that lies zero or more times w after p is after p.
abbrev pub read_at : ℕ → ℕ → ℕ → ℕ → ℕ
read_at w p q t = cond (eqb w 0) t (q + w * ((t - p) / w))

-- the same by the words of the check: flow f's condition number i, where it is on flow c
abbrev pub reading_tick : List ℕ → ℕ → ℕ → ℕ → ℕ → ℕ
reading_tick clocks f i t c = read_at (clock_word clocks f (7 + i)) (clock_word clocks f 1) (clock_word clocks c 1) t

-- flow f's cell of tick t, in the marks or values of a run of m flows
abbrev pub cell_at : ℕ → List ℕ → ℕ → ℕ → ℕ
cell_at m cells t f = get_or cells (t * m + f) 0

module _ (m : ℕ) (marks values : List ℕ) where
  -- a truth at tick t, read from the flow's cell of that tick
  abbrev pub TrueAt : ℕ → ℕ → Type 0
  TrueAt t f = (cell_at m marks t f ≡ 1) × (cell_at m values t f ≡ 0 → ⊥)

  abbrev pub FalseAt : ℕ → ℕ → Type 0
  FalseAt t f = (cell_at m marks t f ≡ 1) × (cell_at m values t f ≡ 0)

  -- the condition with a word, 2 × flow + 1 for true and 2 × flow for false, at the tick that is given for its flow
  pub record ConditionAt (tick : ℕ → ℕ) (word : ℕ) : Type 0 where
    pub true_word : (f : ℕ) → word ≡ 2 * f + 1 → TrueAt (tick f) f
    pub false_word : (f : ℕ) → word ≡ 2 * f → FalseAt (tick f) f

  -- the calendar of flow f: tick t is its phase plus whole periods, and each of its conditions has the truth that it names at the tick
  -- at which it is read
  pub record Due (t : ℕ) (clocks : List ℕ) (f : ℕ) : Type 0 where
    pub periods : ℕ
    pub tick : t ≡ clock_word clocks f 1 + periods * clock_word clocks f 0
    pub conditions : (i : ℕ) → i < clock_word clocks f 2 → ConditionAt (reading_tick clocks f i t) (clock_word clocks f (3 + i))

-- the check accepts the table
abbrev pub Accepts : ℕ → List ℕ → List ℕ → Type 0
Accepts m words clocks = (check_answer m words (length clocks)).number ≡ 0

-- the lengths that a run asks for
pub record Asked (m : ℕ) (words log : List ℕ) (ticks : ℕ) (marks values : List ℕ) : Type 0 where
  pub log_length : length log ≡ ticks * inputs (rows_in (table_of m words))
  pub marks_length : ticks * m ≤ length marks
  pub values_length : ticks * m ≤ length values

-- a run ends without a clash
abbrev pub Ends : ℕ → List ℕ → List ℕ → ℕ → List ℕ → List ℕ → Type 0
Ends m words log ticks marks values = (run_answer m words log ticks (length marks) (length values)).number ≡ 0

-- each flow has a value at a tick exactly when its calendar says so
abbrev pub OnCalendar : ℕ → List ℕ → List ℕ → List ℕ → ℕ → List ℕ → List ℕ → Type 0
OnCalendar m words clocks log ticks marks values =
    let marks' = marks_after m words log ticks marks values in
    let values' = values_after m words log ticks marks values in
    (t f : ℕ) → t < ticks → f < m
    → (cell_at m marks' t f ≡ 1) ↔ Due m marks' values' t (clocks_after m words clocks) f

-- the kinds of sampling and merging, 13 to 15, and of views, 17 and 18
abbrev pub samples : ℕ → Bool
samples kind = (leb 13 kind && leb kind 15) || (leb 17 kind && leb kind 18)

-- the first m rows are free of sampling, merging and views
unfoldable pub free : ℕ → List ℕ → Bool
free zero words = true
free (suc f) words = free f words && not (samples (row_words words f).kind)

-- the check answers 0 or 21
abbrev pub Judged : ℕ → List ℕ → List ℕ → Type 0
Judged m words clocks = Accepts m words clocks ⊎ ((check_answer m words (length clocks)).number ≡ number ClocksDiffer)

-- so many ticks show every difference of plain clocks: 131,071
abbrev pub judging_ticks : ℕ
judging_ticks = 2 * max_derived + 1

-- DEMAND 3
pub record SharedCalendar : Type 0 where
  -- a table that the check accepts runs without a clash, each flow on the calendar that the check gave it
  pub accepted_runs :
      (m : ℕ) (words clocks : List ℕ) → Accepts m words clocks
      → (log : List ℕ) (ticks : ℕ) (marks values : List ℕ) → ticks ≤ max_ticks → Asked m words log ticks marks values
      → Ends m words log ticks marks values × OnCalendar m words clocks log ticks marks values
  -- a table free of sampling, merging and views that the check answers with 0 or 21 is accepted exactly when its run of 131,071
  -- ticks over any one log ends without a clash
  pub one_run_judges :
      (m : ℕ) (words clocks : List ℕ) → free m words ≡ true → Judged m words clocks
      → (log marks values : List ℕ) → Asked m words log judging_ticks marks values
      → Accepts m words clocks ↔ Ends m words log judging_ticks marks values

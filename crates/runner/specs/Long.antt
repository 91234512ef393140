-- The long run: the check first, then a run whose last ticks stand in a window, and a tally of each flow.
use Rattle.std.specs.Prelude.{◌≡◌, ℕ, ◌*◌, ◌&&◌, List, length, ◌==◌, nat_le}
use Rattle.table.specs.declared.Answer.{Answer}
use Rattle.table.specs.declared.refusal.Refusal.TheVariants.{TooManyTicks, WrongLog, ShortWindow}
use Rattle.table.specs.Answers.{Result, good, refused, unless, then, answer}
use Rattle.table.specs.Rows.{Row}
use Rattle.table.specs.Plain.{table_of}
use Rattle.checker.specs.Rules.{clocks_of}
use Rattle.semantics.specs.Cells.{value}
use Rattle.semantics.specs.Runs.{Ticks, inputs, done, run}
use Rattle.semantics.specs.Answers.{mark_byte}
use Rattle.semantics.specs.Windows.{Windowed, tally_size, Tallied}

-- the ticks of the window, and the most ticks of a long run
abbrev pub window_ticks : ℕ
window_ticks = 131072

abbrev pub max_long_ticks : ℕ
max_long_ticks = 4194303

-- the rows that a long run takes over so many marks, values and words of tallies, or its refusal
unfoldable pub long_rows : ℕ → List ℕ → List ℕ → ℕ → ℕ → ℕ → ℕ → Result (List Row)
long_rows m words log ticks marks values tallies =
    then (table_of m words) λ rows.
    then (clocks_of rows) λ clocks.
    unless (nat_le ticks max_long_ticks) TooManyTicks 0
    (unless (length log == ticks * inputs rows) WrongLog 0
    (unless (nat_le (window_ticks * m) marks && nat_le (window_ticks * m) values && nat_le (tally_size * m) tallies) ShortWindow 0
    (good rows)))

-- success counts the ticks
abbrev pub long_answer : ℕ → List ℕ → List ℕ → ℕ → ℕ → ℕ → ℕ → Answer
long_answer m words log ticks marks values tallies = answer (λ (rows : List Row). ticks) (long_rows m words log ticks marks values tallies)

-- what the run of its rows leaves: all ticks are worked out, and marks, values and tallies are those of their cells
pub record LongRan (m : ℕ) (log : List ℕ) (ticks : ℕ) (rows : List Row) (ms vs ts ms' vs' ts' : List ℕ) : Type 0 where
  pub past : Ticks
  pub ran : run rows log ticks ≡ done past
  pub marks : Windowed window_ticks m mark_byte past ms ms'
  pub values : Windowed window_ticks m value past vs vs'
  pub tallies : Tallied m past ts ts'

-- that, or all as it was
abbrev pub LongLeft : ℕ → List ℕ → ℕ → Result (List Row) → List ℕ → List ℕ → List ℕ → List ℕ → List ℕ → List ℕ → Type 0
LongLeft m log ticks (good rows) ms vs ts ms' vs' ts' = LongRan m log ticks rows ms vs ts ms' vs' ts'
LongLeft m log ticks (refused why f) ms vs ts ms' vs' ts' = (ms' ≡ ms) × (vs' ≡ vs) × (ts' ≡ ts)

-- what a call of the long run promises: its answer, and what marks, values and tallies hold at the end
pub record LongCalled (m : ℕ) (words log : List ℕ) (ticks : ℕ) (ms vs ts ms' vs' ts' : List ℕ) (r : Answer) : Type 0 where
  pub answer : r ≡ long_answer m words log ticks (length ms) (length vs) (length ts)
  pub left : LongLeft m log ticks (long_rows m words log ticks (length ms) (length vs) (length ts)) ms vs ts ms' vs' ts'

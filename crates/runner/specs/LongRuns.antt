-- What a caller of the long run can rely on: it never clashes, and its contract leaves nothing free.
use Rattle.std.specs.Prelude.{◌≡◌, ℕ, List, length, ◌≢◌}
use Rattle.table.specs.declared.Answer.{Answer}
use Rattle.table.specs.declared.refusal.Refusal.TheVariants.{Clash}
use Rattle.table.specs.Answers.{number}
use Rattle.table.specs.Plain.{table_of, rows_in}
use Rattle.semantics.specs.Runs.{Ticks, done, run}
use Rattle.calendar.specs.Calendar.{Accepts}
use Rattle.runner.specs.Long.{long_answer, LongCalled}

pub record LongRuns : Type 0 where
  -- a table that the check accepts runs to its end, over every log and for every count of ticks
  pub accepted_ends :
      (m : ℕ) (words clocks : List ℕ) → Accepts m words clocks
      → (log : List ℕ) (ticks : ℕ) → (past : Ticks) × (run (rows_in (table_of m words)) log ticks ≡ done past) × (length past ≡ ticks)
  -- no long run answers 34, whatever its table, its log, its count of ticks and the lengths of its buffers
  pub never_clashes :
      (m : ℕ) (words log : List ℕ) (ticks marks values tallies : ℕ) → (long_answer m words log ticks marks values tallies).number ≢ number Clash
  -- two calls with the same arguments and buffers answer and leave the same
  pub determined :
      (m : ℕ) (words log : List ℕ) (ticks : ℕ) (ms vs ts ms' vs' ts' ms'' vs'' ts'' : List ℕ) (r q : Answer)
      → LongCalled m words log ticks ms vs ts ms' vs' ts' r → LongCalled m words log ticks ms vs ts ms'' vs'' ts'' q
      → (r ≡ q) × (ms' ≡ ms'') × (vs' ≡ vs'') × (ts' ≡ ts'')

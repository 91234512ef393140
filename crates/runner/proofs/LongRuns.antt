-- The long run never clashes, and its contract leaves nothing free. Assumes nothing.
use Rattle.std.proofs.Common.{◌≡◌, ℕ, ◌*◌, eqb, leb, List, length, sym, refl, ap, ◌∙◌, subst, arith}
use Rattle.table.specs.declared.refusal.Refusal.TheVariants.{Clash, TooManyTicks, WrongLog, ShortWindow}
use Rattle.table.specs.Answers.{number, Result, good, refused, unless, then, answer}
use Rattle.table.specs.Rows.{Row}
use Rattle.table.specs.Plain.{table_of, rows_in}
use Rattle.checker.specs.Rules.{clocks_of}
use Rattle.checker.proofs.Bounds.{accepted_rows}
use Rattle.checker.proofs.Causes.{OtherCause, unless_other, then_other, is_good, table_other, clocks_other}
use Rattle.semantics.specs.Runs.{Ticks, inputs, done, run}
use Rattle.semantics.specs.Cells.{value}
use Rattle.semantics.specs.Answers.{mark_byte}
use Rattle.semantics.specs.Windows.{Windowed, Tallied}
use Rattle.semantics.proofs.Windows.{windows_same, tallies_same}
use Rattle.calendar.specs.Calendar.{Accepts}
use Rattle.calendar.proofs.Unclashed.{unclashed}
use Rattle.runner.specs.Long.{window_ticks, max_long_ticks, long_rows, long_answer, LongLeft}
use Rattle.runner.specs.LongRuns.{LongRuns}
use Rattle.runner.proofs.LongCalled.{roomy, logged, behind}

-- a table that the check accepts runs to its end
ends : (m : ℕ) (words clocks : List ℕ) → Accepts m words clocks → (log : List ℕ) (ticks : ℕ)
    → (past : Ticks) × (run (rows_in (table_of m words)) log ticks ≡ done past) × (length past ≡ ticks)
ends m words clocks a log ticks =
    let x = accepted_rows m words (length clocks) a in
    let u = unclashed m words x.0 x.1 x.2 x.3 log ticks in
    (u.0, ap (λ (y : Result (List Row)). run (rows_in y) log ticks) x.2 ∙ u.1, u.2)

-- a long run is refused for other causes
module _ (m : ℕ) (words log : List ℕ) (ticks a b c : ℕ) where
  behind_other : (rows : List Row) → OtherCause (behind m log ticks a b c rows)
  behind_other rows =
      unless_other (leb ticks max_long_ticks) TooManyTicks 0 (logged m log ticks a b c rows) (λ e. omega arith)
      (unless_other (eqb (length log) (ticks * inputs rows)) WrongLog 0 (unless (roomy m log ticks a b c) ShortWindow 0 (good rows)) (λ e. omega arith)
      (unless_other (roomy m log ticks a b c) ShortWindow 0 (good rows) (λ e. omega arith) (is_good rows)))

  long_other : OtherCause (long_rows m words log ticks a b c)
  unfolding long_rows
  long_other =
      then_other (table_of m words) (λ rows. then (clocks_of rows) λ clocks. behind m log ticks a b c rows) (table_other m words)
      (λ rows. then_other (clocks_of rows) (λ clocks. behind m log ticks a b c rows) (clocks_other rows) (λ clocks. behind_other rows))

  never : (long_answer m words log ticks a b c).number ≡ number Clash → ⊥
  never z = go (long_rows m words log ticks a b c) refl z
    where
      go : (x : Result (List Row)) → long_rows m words log ticks a b c ≡ x → (answer (λ (rows : List Row). ticks) x).number ≡ number Clash → ⊥
      go (refused why f) e q = long_other.other why f e q
      go (good rows) e q = omega arith

-- what a call leaves is given by its rows
module _ (m : ℕ) (log : List ℕ) (ticks : ℕ) (ms vs ts ms' vs' ts' ms'' vs'' ts'' : List ℕ) where
  left_same : (x : Result (List Row)) → LongLeft m log ticks x ms vs ts ms' vs' ts' → LongLeft m log ticks x ms vs ts ms'' vs'' ts''
      → (ms' ≡ ms'') × (vs' ≡ vs'') × (ts' ≡ ts'')
  left_same (refused why f) a b = (a.0 ∙ sym b.0, a.1 ∙ sym b.1, a.2 ∙ sym b.2)
  left_same (good rows) a b =
      let z : done b.past ≡ done a.past = sym b.ran ∙ a.ran in
      let p : b.past ≡ a.past = cc in (
        windows_same window_ticks m mark_byte a.past ms ms' ms'' a.marks (subst (λ (y : Ticks). Windowed window_ticks m mark_byte y ms ms'') p b.marks),
        windows_same window_ticks m value a.past vs vs' vs'' a.values (subst (λ (y : Ticks). Windowed window_ticks m value y vs vs'') p b.values),
        tallies_same m a.past ts ts' ts'' a.tallies (subst (λ (y : Ticks). Tallied m y ts ts'') p b.tallies),
      )

pub long_runs : LongRuns
long_runs =
    record {
      accepted_ends = ends;
      never_clashes = never;
      determined =
          λ m words log ticks ms vs ts ms' vs' ts' ms'' vs'' ts'' r q A B.
          let S = left_same m log ticks ms vs ts ms' vs' ts' ms'' vs'' ts'' (long_rows m words log ticks (length ms) (length vs) (length ts)) A.left B.left in
          (A.answer ∙ sym B.answer, S.0, S.1, S.2);
    }

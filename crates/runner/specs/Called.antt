-- What a call of the run promises, in three parts: its answer, and what marks and values hold at the end.
use Rattle.std.specs.Prelude.{◌≡◌, ℕ, List, length}
use Rattle.table.specs.declared.Answer.{Answer}
use Rattle.semantics.specs.Answers.{run_answer, marks_after, values_after}

pub record Called (m : ℕ) (words log : List ℕ) (ticks : ℕ) (ms vs ms' vs' : List ℕ) (r : Answer) : Type 0 where
  pub answer : r ≡ run_answer m words log ticks (length ms) (length vs)
  pub marks : ms' ≡ marks_after m words log ticks ms vs
  pub values : vs' ≡ values_after m words log ticks ms vs

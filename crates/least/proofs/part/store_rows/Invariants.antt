use Rattle.reach.specs.Sets.{has}
use Rattle.least.proofs.Storing.{Stored, rows_laid}
use Rattle.least.proofs.part.store_rows.Given as goal

abbrev pub invariant-loop-f : goal.invariant-loop-f
invariant-loop-f l = Stored (has l.set) (λ i. rows_laid l.words (has l.set) i) l.initial.rows l.at l.f l.rows

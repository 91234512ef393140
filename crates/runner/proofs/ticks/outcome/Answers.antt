use Rattle.std.proofs.Common.{refl}
use Rattle.table.specs.Rows.{add, kinds}
use Rattle.runner.specs.Private.Carried.{step_of, next_of}
use Rattle.runner.proofs.ticks.outcome.Goals as goal

pub returns-in-2 : goal.returns-in-2
unfolding kinds step_of next_of
returns-in-2 c = rw c.in-2.is (record { answer = c.combined.ensures add (λ a b z. refl); carried = refl })

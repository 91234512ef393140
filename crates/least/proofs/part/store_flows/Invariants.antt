use Rattle.reach.specs.Sets.{has}
use Rattle.least.proofs.Storing.{Stored, flows_laid}
use Rattle.least.proofs.part.store_flows.Given as goal

abbrev pub invariant-loop-f : goal.invariant-loop-f
invariant-loop-f l = Stored (has l.set) (λ i. flows_laid (has l.set) i) l.initial.flows l.at l.f l.flows

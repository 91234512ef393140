use Rattle.runner.specs.Private.Placed.{Counted}
use Rattle.runner.proofs.tally.add.Given as goal

abbrev pub invariant-loop-f : goal.invariant-loop-f
invariant-loop-f l = Counted l.first l.f l.marks l.values l.initial.tallies l.tallies

use Rattle.least.specs.Private.Steps.{Chosen}
use Rattle.least.proofs.Plan.choose.Given as goal

abbrev pub invariant-loop-set : goal.invariant-loop-set
invariant-loop-set l = Chosen l.self.count l.self.words.now l.set-index l.least

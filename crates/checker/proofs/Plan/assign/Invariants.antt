use Rattle.checker.specs.Private.Kept.{rows_of}
use Rattle.checker.proofs.Folds.{Going}
use Rattle.checker.proofs.Plan.assign.Given as goal

abbrev pub invariant-loop-f : goal.invariant-loop-f
invariant-loop-f l = Going (rows_of l.self.count l.self.words.now) l.f l.kept

use Rattle.influence.proofs.Masking.{Masking}
use Rattle.influence.proofs.keep.Given as goal

abbrev pub invariant-loop-set : goal.invariant-loop-set
invariant-loop-set l = Masking l.kept l.fn.sets l.set-index l.sets

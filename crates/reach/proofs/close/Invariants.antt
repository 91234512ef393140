use mathlib.Core.Path.{◌≡◌}
use lib.ListN.{length}
use Rattle.reach.specs.Private.Steps.{Reached}
use Rattle.reach.proofs.close.Given as goal

abbrev pub invariant-loop-k : goal.invariant-loop-k
invariant-loop-k l = (length l.sets ≡ l.n) × Reached l.words l.n l.k l.sets

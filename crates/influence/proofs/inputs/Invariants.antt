use mathlib.Core.Path.{◌≡◌}
use Rattle.reach.specs.Sets.{set_of}
use Rattle.influence.specs.Felt.{input_at}
use Rattle.influence.proofs.inputs.Given as goal

abbrev pub invariant-loop-i : goal.invariant-loop-i
invariant-loop-i l = l.set ≡ set_of (input_at l.words) l.i

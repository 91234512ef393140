use Rattle.std.proofs.Common.{rules}
use Rattle.semantics.proofs.TwosComplement.{flipped_order}
use Rattle.runner.proofs.operators.below.Goals as goal

pub returns : goal.returns
returns c = flipped_order c.args.x c.args.y (search rules) (search rules)

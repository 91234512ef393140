use native.Mathlib.Omega.{arith}
use Rattle.checker.proofs.Giving.{given_stored}
use Rattle.checker.proofs.give.Goals as goal

pub returns : goal.returns
returns c = given_stored c.args.k.now c.args.words.now (omega arith) c.requires

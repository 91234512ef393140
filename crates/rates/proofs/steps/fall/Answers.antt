use native.Mathlib.Omega.{arith}
use Rattle.table.specs.Plain.{words_of}
use Rattle.rates.proofs.Stepping.{stays}
use Rattle.rates.proofs.steps.fall.Goals as goal

pub returns-in_default : goal.returns-in_default
returns-in_default c = (stays (words_of c.args.r) c.args.rate c.requires (λ l. omega arith)).1

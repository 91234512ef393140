use Rattle.std.proofs.Common.{replicate}
use Rattle.text.specs.Text.{space}
use Rattle.text.specs.Writers.{Writes}
use Rattle.text.proofs.Writer.put_right.Given as goal

abbrev pub invariant-blanks : goal.invariant-blanks
invariant-blanks l = Writes (replicate l.counter space) l.initial.self l.self

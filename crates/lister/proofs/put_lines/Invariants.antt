use Rattle.text.specs.Writers.{Writes}
use Rattle.lister.specs.Private.Words.{clocks_text}
use Rattle.lister.proofs.put_lines.Given as goal

abbrev pub invariant-loop-f : goal.invariant-loop-f
invariant-loop-f l = Writes (clocks_text l.f 0 l.words) l.initial.writer l.writer

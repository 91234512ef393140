use Rattle.text.specs.Writers.{Writes}
use Rattle.lister.specs.Private.Words.{words_text}
use Rattle.lister.proofs.put_words.Given as goal

abbrev pub invariant-loop-i : goal.invariant-loop-i
invariant-loop-i l = Writes (words_text l.i l.words) l.initial.writer l.writer

use native.Mathlib.Numerals.{add-one}
use Rattle.text.proofs.Writing.{none, joined}
use Rattle.lister.specs.Private.Words.{words_text}
use Rattle.lister.proofs.put_words.Goals as goal

pub loop-i-init : goal.loop-i-init
unfolding words_text
loop-i-init c = none _

pub loop-i-preserved : goal.loop-i-preserved
unfolding words_text
loop-i-preserved c = rw add-one (joined c.loop-i.invariant (rw (c.word_at-word.ensures, c.word_at-view.ensures) at c.put_condition.ensures))

use Rattle.std.proofs.lemmas.List.{take_rest}
use Rattle.text.proofs.Writing.{joined}
use Rattle.lister.specs.Private.Words.{clock_text}
use Rattle.lister.proofs.put_line.Goals as goal

pub returns : goal.returns
unfolding clock_text
returns c =
    let conditions = rw (take_rest c.args.clock.now 3) at c.put_conditions.ensures in
    rw (← c.word_at-period.ensures, ← c.word_at-phase.ensures, ← c.word_at-n.ensures)
    (joined c.put_field.ensures (joined c.put_field-2.ensures (joined c.put_field-3.ensures (joined conditions c.put.ensures))))

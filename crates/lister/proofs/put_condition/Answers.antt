use Rattle.text.proofs.Writing.{joined}
use Rattle.lister.specs.Private.Words.{word_text}
use Rattle.lister.proofs.put_condition.Goals as goal

pub returns : goal.returns
unfolding word_text
returns c =
    let w = joined c.put.ensures (joined c.put_decimal.ensures (joined c.put-2.ensures c.put_view.ensures)) in
    rw (← c.sign.ensures) w

use Rattle.text.proofs.Writing.{joined}
use Rattle.loads.specs.Loads.{line_text}
use Rattle.loads.proofs.Flows.put_line.Goals as goal

pub returns : goal.returns
unfolding line_text
returns c =
    let last = joined c.put_field-4.ensures (joined c.put_right.ensures c.put.ensures) in
    rw (← c.load_of.ensures.value, ← c.word_at.ensures, ← c.word_at-2.ensures, ← c.word_at-3.ensures)
    (joined c.put_field.ensures (joined c.put_field-2.ensures (joined c.put_field-3.ensures last)))

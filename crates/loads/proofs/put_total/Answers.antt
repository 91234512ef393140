use Rattle.text.proofs.Writing.{joined}
use Rattle.loads.specs.Loads.{total_text}
use Rattle.loads.proofs.put_total.Goals as goal

pub returns : goal.returns
unfolding total_text
returns c = joined c.put_bytes.ensures (joined c.put_right.ensures c.put.ensures)

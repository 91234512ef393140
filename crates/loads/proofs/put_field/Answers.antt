use Rattle.text.proofs.Writing.{joined}
use Rattle.loads.proofs.put_field.Goals as goal

pub returns : goal.returns
returns c = joined c.put_right.ensures c.put.ensures

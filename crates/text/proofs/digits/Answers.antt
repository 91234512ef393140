use Rattle.text.proofs.Decimal.{digits_by}
use Rattle.text.proofs.digits.Goals as goal

pub returns : goal.returns
returns c = digits_by c.args.n _ c.max.ensures c.ilog10.ensures.power_le c.ilog10.ensures.next_power_gt

use Rattle.table.proofs.Windows.{masked, one_le_shifted}
use Rattle.table.proofs.bits.low_bits.Goals as goal

pub overflow_sub-result : goal.overflow_sub-result
overflow_sub-result c = one_le_shifted c.args.w c.requires

pub returns : goal.returns
returns c = masked c.args.x c.args.w c.requires

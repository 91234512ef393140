use Rattle.std.proofs.Common.{sym, arith}
use Rattle.runner.proofs.Decoded.{no_start}
use Rattle.runner.proofs.state.first_word.Goals as goal

pub returns-in_default : goal.returns-in_default
returns-in_default c =
    let r = c.args.row in
    sym (no_start r.kind r.one r.two r.three c.requires (omega arith) (omega arith) (omega arith))

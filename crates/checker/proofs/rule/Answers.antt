use native.Mathlib.Omega.{arith}
use Rattle.checker.proofs.ByRow.{rule_combine}
use Rattle.checker.proofs.rule.Goals as goal

pub returns-in-2-to-6 : goal.returns-in-2-to-6
returns-in-2-to-6 c =
    let a = c.args.row in
    rw (rule_combine _ a.kind a.one a.two a.three (omega arith) (omega arith), c.combined.ensures, c.clock_at-in-2-to-6.ensures, c.clock_at-in-2-to-6-2.ensures)

use Rattle.std.proofs.Common.{lt-ltb, eq-eqb}
use Rattle.runner.proofs.carried.faster.Goals as goal

pub returns-then-cells-j-eq0-clause-carried : goal.returns-then-cells-j-eq0-clause-carried
returns-then-cells-j-eq0-clause-carried c = simp (eq-eqb _ _ c.if-cells-j-eq0.true, lt-ltb _ _ c.requires.0) (c.copied.ensures.carried c.args.k)

use native.Mathlib.Omega.{arith}
use Rattle.loads.specs.Loads.{lines_from, total}
use Rattle.loads.specs.Private.Words.{line_at}
use Rattle.loads.proofs.Sums.{total_more}
use Rattle.loads.proofs.Flows.sum.Goals as goal

pub loop-f-init : goal.loop-f-init
unfolding lines_from total
loop-f-init c = (omega arith, omega arith)

pub loop-f-preserved : goal.loop-f-preserved
loop-f-preserved c =
    let l = c.loop-f in
    let r = c.load_of-sum.ensures in
    (omega (arith, l.invariant.0, r.value, total_more (line_at c.args.self.now) l.f), omega (arith, l.invariant.1, r.upper_bound))

use Rattle.runner.proofs.Tallying.{tallied_on, low_on}
use Rattle.std.proofs.Common.{◌+◌, arith}
use Rattle.runner.proofs.tally.add_ticks.Goals as goal

pub loop-t-preserved : goal.loop-t-preserved
loop-t-preserved c =
    let a = c.args in
    let l = c.loop-t in
    let h = c.loop-t-test.true in
    let add = c.add in (
      low_on _ a.plan.n (l.t + 1) a.marks.now a.values.now l.tallies _ add.ensures l.invariant.0,
      λ past ts e w W T.
          tallied_on (a.plan.mask + 1) a.plan.n l.t a.to past a.marks.now a.values.now ts l.tallies _ e h (omega arith) W
          (rw (← c.first_cell.ensures) add.ensures) add.auto.tallies (l.invariant.1 past ts e w W T),
    )

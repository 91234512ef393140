use mathlib.Core.Path.{sym}
use native.Mathlib.Omega.{arith}
use Rattle.reach.specs.Sets.{has}
use Rattle.least.proofs.Numbers.{below_lt}
use Rattle.least.proofs.Storing.{flows_none, flows_in, flows_out}
use Rattle.least.proofs.part.store_flows.Goals as goal
use Rattle.least.proofs.part.store_flows.Goals.{then-has, else-has}

pub loop-f-init : goal.loop-f-init
loop-f-init c = flows_none _ _

pub loop-f-preserved : goal.loop-f-preserved
loop-f-preserved c =
    let a = c.args in
    let l = c.loop-f in
    elim c.if-has.branch [
      | then-has w ↦ (let e = sym w.if-has.ensures in
          rw (w.flows-is, w.at-is)
          (flows_in (has a.set) a.flows.now l.at l.f l.flows l.invariant e
          (omega (arith, l.invariant.count, c.requires.room, below_lt (has a.set) l.f a.n c.loop-f-test.true e))))
      | else-has w ↦ rw (w.flows-is, w.at-is) (flows_out (has a.set) a.flows.now l.at l.f l.flows l.invariant (sym w.if-has.ensures))
    ]

use Prim.Native.Nat.{suc}
use native.Mathlib.Omega.{arith}
use Rattle.archive.proofs.Storing.{step_room, step_next, step_all, step_end, taken_next}
use Rattle.archive.proofs.blocks.take_column.Goals as goal

pub bounds-stored-place : goal.bounds-stored-place
bounds-stored-place c =
    let k = c.loop-tick in
    let n = c.period-n.ensures in
    omega (arith, step_room n.positive k.invariant.step n.value c.requires.3 c.loop-tick-test.true, k.invariant.taken.size)

pub loop-tick-preserved : goal.loop-tick-preserved
loop-tick-preserved c =
    let k = c.loop-tick in
    let n = c.period-n.ensures in
    let step = k.invariant.step in
    record {
      number = suc k.invariant.number;
      step = step_next n.positive step c.loop-tick-test.true;
      taken =
          taken_next step.tick step.place
          (omega (arith, step_room n.positive step n.value c.requires.3 c.loop-tick-test.true, k.invariant.taken.size)) k.invariant.taken;
    }

pub returns-clause-moved : goal.returns-clause-moved
returns-clause-moved c = step_end c.period-n.ensures.positive c.loop-tick.invariant.step c.period-n.ensures.value c.loop-tick-test.false

pub returns-clause-taken : goal.returns-clause-taken
returns-clause-taken c =
    let n = c.period-n.ensures in
    let k = c.loop-tick.invariant in
    rw (← step_all n.positive k.step n.value c.loop-tick-test.false, ← n.value) k.taken

use mathlib.Core.Path.{refl, ap}
use Prim.Native.Nat.{ℕ, suc}
use native.Mathlib.Nat.{mul-le-mul_right, suc-mul}
use native.Mathlib.Omega.{arith}
use lib.ListN.{get_or}
use Rattle.archive.proofs.Storing.{step_room, step_next, step_all, step_end}
use Rattle.archive.proofs.Restoring.{put_next}
use Rattle.archive.proofs.blocks.put_column.Goals as goal

pub bounds-stored-place : goal.bounds-stored-place
bounds-stored-place c =
    let n = c.period-n.ensures in
    step_room n.positive c.loop-tick.invariant.step n.value c.requires.4 c.loop-tick-test.true

pub loop-tick-preserved : goal.loop-tick-preserved
loop-tick-preserved c =
    let a = c.args in
    let m = a.plan.now.flows in
    let k = c.loop-tick in
    let n = c.period-n.ensures in
    let step = k.invariant.step in
    let within = mul-le-mul_right m c.loop-tick-test.true in
    let ends = mul-le-mul_right m c.requires.1 in
    let next = suc-mul k.tick m in
    record {
      number = suc k.invariant.number;
      step = step_next n.positive step c.loop-tick-test.true;
      marks = put_next n.positive c.requires.0 step.tick (omega (arith, within, ends, next, c.requires.2)) refl k.invariant.marks;
      values =
          put_next n.positive c.requires.0 step.tick (omega (arith, within, ends, next, c.requires.3))
          (ap (λ (i : ℕ). get_or a.stored.now i 0) step.place) k.invariant.values;
    }

pub returns-clause-moved : goal.returns-clause-moved
returns-clause-moved c = step_end c.period-n.ensures.positive c.loop-tick.invariant.step c.period-n.ensures.value c.loop-tick-test.false

pub returns-clause-marks : goal.returns-clause-marks
returns-clause-marks c =
    let n = c.period-n.ensures in
    let k = c.loop-tick.invariant in
    rw (← step_all n.positive k.step n.value c.loop-tick-test.false, ← n.value) k.marks

pub returns-clause-values : goal.returns-clause-values
returns-clause-values c =
    let n = c.period-n.ensures in
    let k = c.loop-tick.invariant in
    rw (← step_all n.positive k.step n.value c.loop-tick-test.false, ← n.value) k.values

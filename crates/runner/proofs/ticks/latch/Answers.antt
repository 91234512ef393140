use Rattle.std.proofs.Common.{◌∙◌, length-set, arith}
use Rattle.runner.proofs.Plans as plans
use Rattle.runner.proofs.Latching.{ends, stops, goes_on, operands_low}
use Rattle.runner.proofs.ticks.latch.Goals as goal

pub bounds-plan-f : goal.bounds-plan-f
bounds-plan-f c = omega (arith, (plans.registers c.args.plan).within c.loop-row.row-index c.loop-row-test.true)

pub bounds-plan-f-in-loop-row : goal.bounds-plan-f-in-loop-row
bounds-plan-f-in-loop-row c = omega (arith, (plans.registers c.args.plan).within c.loop-row.row-index c.loop-row-test.true)

pub bounds-state-f : goal.bounds-state-f
bounds-state-f c = omega (arith, (plans.registers c.args.plan).within c.loop-row.row-index c.loop-row-test.true)

pub bounds-marks-a : goal.bounds-marks-a
bounds-marks-a c =
    let a = c.args in
    let p = a.plan in
    omega (arith, operands_low p.n p.words.now p.registers.now _ (plans.table p) (plans.registers p) c.loop-row.row-index c.loop-row-test.true)

pub bounds-marks-b : goal.bounds-marks-b
bounds-marks-b c =
    let p = c.args.plan in
    let low = (plans.registers p).within c.loop-row.row-index c.loop-row-test.true in
    omega (arith, low, operands_low p.n p.words.now p.registers.now _ (plans.table p) (plans.registers p) c.loop-row.row-index c.loop-row-test.true)

pub returns-then-marks-a : goal.returns-then-marks-a
returns-then-marks-a c =
    let l = c.loop-row in
    let a = c.args in
    let p = a.plan in
    λ past cells ms vs t z w F.
    stops p.n p.words.now p.registers.now _ (plans.table p) (plans.registers p) past cells
    ms vs a.marks.now a.values.now a.state.now t z w F l.state l.row-index (l.invariant.1 past cells ms vs t z w F)
    c.loop-row-test.true c.if-marks-a.true

pub bounds-marks-a-in-loop-row : goal.bounds-marks-a-in-loop-row
bounds-marks-a-in-loop-row c =
    let a = c.args in
    let p = a.plan in
    omega (arith, operands_low p.n p.words.now p.registers.now _ (plans.table p) (plans.registers p) c.loop-row.row-index c.loop-row-test.true)

pub bounds-values-a : goal.bounds-values-a
bounds-values-a c =
    let a = c.args in
    let p = a.plan in
    omega (arith, operands_low p.n p.words.now p.registers.now _ (plans.table p) (plans.registers p) c.loop-row.row-index c.loop-row-test.true)

pub loop-row-preserved : goal.loop-row-preserved
loop-row-preserved c =
    let l = c.loop-row in
    let a = c.args in
    let p = a.plan in
    let low = (plans.registers p).within l.row-index c.loop-row-test.true in (
      length-set l.state _ _ ∙ l.invariant.0,
      λ past cells ms vs t z w F.
          goes_on p.n p.words.now p.registers.now _ (plans.table p) (plans.registers p)
          past cells ms vs a.marks.now a.values.now a.state.now t z w F l.state l.row-index
          (l.invariant.1 past cells ms vs t z w F) c.loop-row-test.true _ (omega (arith, l.invariant.0, low)) c.latched-held.ensures c.if-marks-a.false,
    )

pub returns : goal.returns
returns c =
    let l = c.loop-row in
    let a = c.args in
    let p = a.plan in
    λ past cells ms vs t z w F.
    ends p.n p.words.now p.registers.now _ (plans.table p) (plans.registers p) past cells
    ms vs a.marks.now a.values.now a.state.now t z w F l.state l.row-index (l.invariant.1 past cells ms vs t z w F)
    c.loop-row-test.false (omega arith)

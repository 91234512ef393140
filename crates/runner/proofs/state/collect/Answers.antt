use Rattle.std.proofs.Common.{◌+◌, ◌∙◌, length-set, arith}
use Rattle.runner.proofs.Collecting.{starts, goes_on, ends, operand_low}
use Rattle.runner.proofs.Plans as plans
use Rattle.runner.proofs.state.collect.Goals as goal

pub loop-row-init : goal.loop-row-init
loop-row-init c =
    let p = c.args.plan in (
      c.told-state,
      λ past at z q r near C.
          starts p.n p.words.now c.args.backward.now _ (plans.table p) (plans.backward p _ c.requires.3) (p.mask + 1) past c.args.marks.now
          c.args.values.now c.args.state.now c.args.t at (omega (arith, plans.wide p)) z q r near C,
    )

pub bounds-plan-f : goal.bounds-plan-f
bounds-plan-f c = omega (arith, (plans.backward c.args.plan _ c.requires.3).within c.loop-row.row-index c.loop-row-test.true)

pub bounds-plan-f-in-loop-row : goal.bounds-plan-f-in-loop-row
bounds-plan-f-in-loop-row c = omega (arith, (plans.backward c.args.plan _ c.requires.3).within c.loop-row.row-index c.loop-row-test.true)

pub bounds-plan-f-in-loop-row-2 : goal.bounds-plan-f-in-loop-row-2
bounds-plan-f-in-loop-row-2 c = omega (arith, (plans.backward c.args.plan _ c.requires.3).within c.loop-row.row-index c.loop-row-test.true)

pub bounds-plan-f-in-loop-row-3 : goal.bounds-plan-f-in-loop-row-3
bounds-plan-f-in-loop-row-3 c = omega (arith, (plans.backward c.args.plan _ c.requires.3).within c.loop-row.row-index c.loop-row-test.true)

pub bounds-state-f : goal.bounds-state-f
bounds-state-f c = omega (arith, (plans.backward c.args.plan _ c.requires.3).within c.loop-row.row-index c.loop-row-test.true)

pub look_back-requires : goal.look_back-requires
look_back-requires c =
    let p = c.args.plan in
    let pre = c.requires in
    let o = operand_low p.n p.words.now c.args.backward.now _ (plans.table p) (plans.backward p _ c.requires.3) c.loop-row.row-index c.loop-row-test.true in
    (o.0, o.1, pre.0, pre.1, pre.2)

pub loop-row-preserved : goal.loop-row-preserved
loop-row-preserved c =
    let p = c.args.plan in
    let l = c.loop-row in (
      length-set l.state _ _ ∙ l.invariant.0,
      λ past at z q r near C.
          goes_on p.n p.words.now c.args.backward.now _ (plans.table p) (plans.backward p _ c.requires.3) (p.mask + 1) past c.args.marks.now
          c.args.values.now c.args.state.now c.args.t at (omega (arith, plans.wide p)) z q r near C l.state l.row-index (l.invariant.1 past at z q r near C) c.loop-row-test.true _
          (omega (arith, l.invariant.0, (plans.backward p _ c.requires.3).within l.row-index c.loop-row-test.true)) c.look_back.ensures,
    )

pub returns : goal.returns
returns c =
    let p = c.args.plan in
    let l = c.loop-row in
    λ past at z q r near C.
    ends p.n p.words.now c.args.backward.now _ (plans.table p) (plans.backward p _ c.requires.3) (p.mask + 1) past c.args.marks.now
    c.args.values.now c.args.state.now c.args.t at (omega (arith, plans.wide p)) z q r near C l.state l.row-index (l.invariant.1 past at z q r near C) c.loop-row-test.false
    (omega arith)

use Rattle.std.proofs.Common.{◌<◌, length-set, sym, ◌∙◌, arith, eqb-true}
use borrow.Author.Tests.{eqb-false}
use Rattle.runner.proofs.Plans as plans
use Rattle.runner.proofs.Tabled.{row_of_lem}
use Rattle.runner.proofs.Flowing.{starts, ends, stops, goes_on}
use Rattle.runner.proofs.ticks.flows.Goals as goal

pub loop-f-init : goal.loop-f-init
loop-f-init c =
    let a = c.args in
    let p = a.plan in
    (c.told-state, λ past R. starts p.n p.words.now p.log.now _ (plans.table p) past _ _ _ _ _ R)

pub outcome-o-requires : goal.outcome-o-requires
outcome-o-requires c =
    let p = c.args.plan in
    let low : c.loop-f.f < p.n = omega arith in
    let r = row_of_lem p.n p.words.now _ (plans.table p) c.loop-f.f low in
    (low, r.known, r.legal, c.requires.2, c.requires.3)

pub returns-then-put : goal.returns-then-put
returns-then-put c =
    let a = c.args in
    let p = a.plan in
    let l = c.loop-f in
    let low : l.f < p.n = omega arith in
    let put = c.put in
    let clash = sym put.ensures.0 ∙ c.if-put.true in
    λ past R. stops p.n p.words.now p.log.now _ (plans.table p) past a.t a.at
    a.state.now a.marks.now a.values.now R l.state l.marks l.values l.f
    (l.invariant.1 past R) low _ _ (omega (arith, l.invariant.0)) c.outcome-o.ensures _ _
    (eqb-true _ _ clash) (rw clash at put.ensures.1) (rw clash at put.ensures.2)

pub loop-f-preserved : goal.loop-f-preserved
loop-f-preserved c =
    let a = c.args in
    let p = a.plan in
    let l = c.loop-f in
    let low : l.f < p.n = omega arith in
    let put = c.put in
    let cell = sym put.ensures.0 ∙ c.if-put.false in (
      length-set l.state l.f _ ∙ l.invariant.0,
      λ past R. goes_on p.n p.words.now p.log.now _ (plans.table p) past a.t a.at
          a.state.now a.marks.now a.values.now R l.state l.marks l.values l.f
          (l.invariant.1 past R) low _ _ (omega (arith, l.invariant.0)) c.outcome-o.ensures
          _ _ (eqb-false _ _ cell) (omega arith) (omega arith) (rw cell at put.ensures.1) (rw cell at put.ensures.2),
    )

pub returns : goal.returns
returns c =
    let a = c.args in
    let p = a.plan in
    let l = c.loop-f in
    λ past R. ends p.n p.words.now p.log.now _ (plans.table p) past
    a.t a.at a.state.now a.marks.now a.values.now R
    l.state l.marks l.values l.f (l.invariant.1 past R) c.loop-f-test.false (omega arith)

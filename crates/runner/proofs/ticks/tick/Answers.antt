use Rattle.runner.proofs.Ticking.{stops, latches}
use Rattle.runner.proofs.Plans as plans
use Rattle.runner.specs.Private.Plans.{plan_rows}
use Rattle.semantics.specs.Runs.{flows_from, tick_of}
use Rattle.std.proofs.Common.{[]}
use Rattle.std.proofs.lemmas.Result.{err_from_is_err_and}
use Rattle.runner.proofs.ticks.tick.Goals as goal

pub returns-in_err-flows : goal.returns-in_err-flows
unfolding tick_of
returns-in_err-flows c =
    let a = c.args in
    let p = a.plan in
    let e = err_from_is_err_and c.from_residual.result c.from_residual.ensures.1 in
    λ past R. rw (e.1, e.2)
    (stops (plan_rows p) a.t past a.marks.now a.values.now _ _ _ a.state.now
    (flows_from (plan_rows p) p.log.now past [] (plan_rows p)) _ _
    (c.flows.ensures past R) c.in_err-flows.was)

pub returns : goal.returns
unfolding tick_of
returns c =
    let a = c.args in
    let p = a.plan in
    λ past R. latches (plan_rows p) a.t past a.marks.now a.values.now _ _ _ _ p.n
    (plans.table p).size
    (flows_from (plan_rows p) p.log.now past [] (plan_rows p)) _ _
    (c.flows.ensures past R) c.in_ok-flows.was
    (λ cells ms vs z w F. c.latch.ensures past cells ms vs a.t z w F)

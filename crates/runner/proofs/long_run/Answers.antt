use Rattle.runner.proofs.LongCalled.{accepted, counted, handed_on}
use Rattle.checker.specs.Answers.{clock_size}
use Rattle.table.specs.Rows.{max_flows}
use Rattle.table.proofs.AnswerLaws.{no_zero}
use lib.ListN.{length-replicate}
use Rattle.std.proofs.Common.{ℕ, ◌*◌, sym, refl, arith}
use Rattle.std.proofs.lemmas.Result.{err_from_is_err_and}
use Rattle.runner.proofs.long_run.Goals as goal

pub returns-in_err-flows : goal.returns-in_err-flows
returns-in_err-flows c =
    let a = c.args in
    let e = c.in_err-flows.field-0.0 in
    let p = err_from_is_err_and c.from_residual.result c.from_residual.ensures.1 in
    rw (p.1, p.2)
    (handed_on a.count a.words.now a.log.now a.ticks _ a.marks.now a.values.now a.tallies.now _
    (omega (arith, length-replicate {A = ℕ} (clock_size * max_flows) 0)) c.in_err-flows.ensures.answered (no_zero e.why))

pub replay-requires : goal.replay-requires
replay-requires c =
    let a = c.args in
    let n = c.in_ok-flows.flows in
    rw (counted a.count a.words.now _ n c.in_ok-flows.ensures.answered) (accepted a.count a.words.now _ _ c.in_ok-flows.ensures.answered refl)

pub returns : goal.returns
returns c =
    let a = c.args in
    rw (sym (counted a.count a.words.now _ c.in_ok-flows.flows c.in_ok-flows.ensures.answered)) c.replay.ensures

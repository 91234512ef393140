use Rattle.runner.proofs.Called.{accepted, handed_on}
use Rattle.table.proofs.AnswerLaws.{no_zero}
use Rattle.std.proofs.Common.{refl}
use Rattle.std.proofs.lemmas.Result.{err_from_is_err_and}
use Rattle.runner.proofs.run.Goals as goal

pub returns-in_err-examine : goal.returns-in_err-examine
returns-in_err-examine c =
    let a = c.args in
    let e = c.in_err-examine.field-0.0 in
    let p = err_from_is_err_and c.from_residual.result c.from_residual.ensures.1 in
    rw (p.1, p.2) (handed_on a.count a.words.now a.log.now a.ticks a.marks.now a.values.now _ c.in_err-examine.ensures (no_zero e.why))

pub replay-requires : goal.replay-requires
replay-requires c = accepted c.args.count c.args.words.now _ c.in_ok-examine.ensures refl

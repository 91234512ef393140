use Rattle.std.proofs.lemmas.Result.{err_from_is_err_and}
use Rattle.table.specs.Answers.{parts}
use Rattle.archive.proofs.Calls.{restore_refused, plan_restored}
use Rattle.archive.proofs.restore.Goals as goal

pub returns-in_err-plan : goal.returns-in_err-plan
returns-in_err-plan c =
    let a = c.args in
    let p = err_from_is_err_and c.from_residual.result c.from_residual.ensures.1 in
    rw (p.1, p.2) (restore_refused c.in_err-plan.ensures a.stored.now a.marks.now a.values.now)

pub returns : goal.returns
returns c =
    let a = c.args in
    let by = c.restore_by in
    plan_restored c.in_ok-plan.ensures (parts by.result) a.stored.now a.marks.now a.values.now by.new.marks by.new.values by.ensures

use Rattle.std.proofs.lemmas.Result.{err_from_is_err_and}
use Rattle.table.specs.Answers.{parts}
use Rattle.archive.proofs.Calls.{store_refused, plan_stored}
use Rattle.archive.proofs.store.Goals as goal

pub returns-in_err-plan : goal.returns-in_err-plan
returns-in_err-plan c =
    let a = c.args in
    let p = err_from_is_err_and c.from_residual.result c.from_residual.ensures.1 in
    let both = store_refused c.in_err-plan.ensures a.marks.now a.values.now a.stored.now in
    record { answered = rw (p.1, p.2) both.0; stored = both.1 }

pub returns : goal.returns
returns c =
    let a = c.args in
    let by = c.store_by in
    let both =
    plan_stored c.in_ok-plan.ensures (parts by.result) a.marks.now a.values.now a.stored.now by.new.stored (by.ensures.value, by.ensures.stored_after) in
    record { answered = both.0; stored = both.1 }

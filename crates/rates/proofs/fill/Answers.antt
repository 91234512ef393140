use mathlib.Core.Bool.{false}
use mathlib.Core.Path.{◌≡◌}
use lib.ListN.{length}
use Rattle.std.proofs.lemmas.Result.{err_from_is_err_and}
use Rattle.table.specs.Answers.{good}
use Rattle.table.specs.Plain.{draft_of, rows_in}
use Rattle.table.proofs.AnswerLaws.{told_ok}
use Rattle.table.proofs.Tables.{rows_good}
use Rattle.rates.proofs.Passing.{few_flows}
use Rattle.rates.proofs.Answering.{said_draft}
use Rattle.rates.proofs.fill.Goals as goal

pub returns-in_err-examine_draft : goal.returns-in_err-examine_draft
returns-in_err-examine_draft c =
    let a = c.args in
    let p = err_from_is_err_and c.from_residual.result c.from_residual.ensures.1 in
    rw (p.1, p.2) (said_draft a.count a.words.now a.filled.now c.in_err-examine_draft.field-0.0 c.in_err-examine_draft.ensures)

pub invariant_of-fill : goal.invariant_of-fill
invariant_of-fill c =
    let a = c.args in
    let x = told_ok length (draft_of a.count a.words.now) _ c.in_ok-examine_draft.ensures in
    let e : draft_of a.count a.words.now ≡ good (rows_in (draft_of a.count a.words.now)) = rows_good false a.count a.words.now x.0 x.1.0 in
    record { is_draft = e; few = few_flows a.count a.words.now _ e }

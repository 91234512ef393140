use mathlib.Core.Option.{none, some}
use mathlib.Core.List.{List, []}
use mathlib.Core.Path.{◌≡◌, sym, ◌∙◌, ap}
use lib.ListN.{length}
use Rattle.std.proofs.lemmas.Result.{err_from_is_err_and}
use Rattle.table.proofs.AnswerLaws.{told_err}
use Rattle.table.proofs.Tables.{table_made}
use Rattle.table.proofs.Tests.{not_good}
use Rattle.table.specs.Answers.{refused, answer}
use Rattle.table.specs.Rows.{Row}
use Rattle.checker.specs.Rules.{clocks_from, clocks_of}
use Rattle.checker.specs.Private.Kept.{place, rows_of}
use Rattle.checker.proofs.Checks.{clocks_refused, sourced_found}
use Rattle.checker.proofs.Plan.judge.Goals as goal

pub returns-in_err-assigned : goal.returns-in_err-assigned
returns-in_err-assigned c =
    let a = c.args.self in
    let rows : List Row = rows_of a.count a.words.now in
    let s = c.in_err-assigned.ensures in
    let b = c.in_err-assigned.field-0.0 in
    let p = err_from_is_err_and c.from_residual.result c.from_residual.ensures.1 in
    let x = told_err length (clocks_from [] rows) b s.value in
    let e : clocks_of rows ≡ refused b.why b.flow = clocks_refused rows b.why b.flow x.0 in
    record { value = rw (p.1, p.2) (s.value ∙ ap (answer length) (x.0 ∙ sym e)); assigned = λ ks y. not_good (sym e ∙ y) }

pub returns-in-Some : goal.returns-in-Some
returns-in-Some c =
    let a = c.args.self in
    let rows : List Row = rows_of a.count a.words.now in
    let s = c.in_ok-assigned.ensures in
    let x = sourced_found a.count a.words.now rows c.in_ok-assigned.assigned _ (some c.in-Some.f) (table_made a.count a.words.now rows a.passed)
    s.value s.assigned (ap place (sym c.in-Some.is) ∙ c.bad_register.ensures) in
    record { value = rw c.at.ensures (ap (answer length) (sym x.2)); assigned = λ ks y. not_good (sym x.2 ∙ y) }

pub returns-in-None : goal.returns-in-None
returns-in-None c =
    let a = c.args.self in
    let rows : List Row = rows_of a.count a.words.now in
    let s = c.in_ok-assigned.ensures in
    let x = sourced_found a.count a.words.now rows c.in_ok-assigned.assigned _ none (table_made a.count a.words.now rows a.passed)
    s.value s.assigned (ap place (sym c.in-None.is) ∙ c.bad_register.ensures) in
    record { value = s.value ∙ ap (answer length) (x.1 ∙ sym x.2); assigned = λ ks y. s.assigned ks (x.1 ∙ sym x.2 ∙ y) }

use mathlib.Core.Path.{◌≡◌, sym, ◌∙◌, ap}
use native.Mathlib.Omega.{arith}
use Rattle.table.proofs.Tables.{table_made}
use Rattle.table.specs.Answers.{success}
use Rattle.table.specs.Plain.{words_of}
use Rattle.checker.proofs.Folds.{next, stop, finish}
use Rattle.checker.proofs.Plan.assign.Goals as goal

pub returns-in-Err : goal.returns-in-Err
returns-in-Err c =
    let a = c.args.self in
    let l = c.loop-f in
    let r = c.record_at-row in
    let x = stop a.count a.words.now _ l.f l.kept (table_made a.count a.words.now _ a.passed) l.invariant c.loop-f-test.true
    (words_of r.result) r.ensures c.in-Err.why (sym c.in-Err.is ∙ c.rule.ensures) in
    record { value = rw c.at.ensures x.0; assigned = λ ks e. absurd (x.1 ks e) }

pub loop-f-preserved : goal.loop-f-preserved
loop-f-preserved c =
    let a = c.args.self in
    let l = c.loop-f in
    let r = c.record_at-row in
    next a.count a.words.now _ l.f l.kept (table_made a.count a.words.now _ a.passed) l.invariant c.loop-f-test.true
    (words_of r.result) r.ensures c.in-Ok.k (sym c.in-Ok.is ∙ c.rule.ensures)

pub returns : goal.returns
returns c =
    let a = c.args.self in
    let l = c.loop-f in
    let e : l.f ≡ a.count = omega arith in
    let x = finish _ l.f l.kept ((table_made a.count a.words.now _ a.passed).size ∙ sym e) l.invariant in
    record { value = ap success (sym e) ∙ x.0; assigned = x.1 }

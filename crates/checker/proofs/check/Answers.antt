use mathlib.Core.Bool.{true}
use mathlib.Core.Path.{refl, sym, ◌∙◌, ap}
use lib.ListN.{length}
use Rattle.std.proofs.lemmas.Result.{err_from_is_err_and}
use Rattle.table.specs.Answers.{answer}
use Rattle.table.specs.Plain.{table_of}
use Rattle.table.specs.declared.refusal.Refusal.TheVariants.{NoRoom}
use Rattle.table.proofs.AnswerLaws.{told_ok, told_err, refused_leaves}
use Rattle.table.proofs.Tables.{table_made, examined}
use Rattle.checker.specs.Answers.{clocks_words, checking}
use Rattle.checker.specs.Rules.{clocks_of}
use Rattle.checker.specs.Private.Kept.{rows_of}
use Rattle.checker.proofs.Checks.{check_table, check_room, check_clocks, whole_given}
use Rattle.checker.proofs.check.Goals as goal

pub returns-in_err-examine : goal.returns-in_err-examine
returns-in_err-examine c =
    let a = c.args in
    let ws = a.words.now in
    let old = a.clocks.now in
    let b = c.in_err-examine.field-0.0 in
    let p = err_from_is_err_and c.from_residual.result c.from_residual.ensures.1 in
    let o = told_err length (table_of a.count ws) b c.in_err-examine.ensures in
    let e = refused_leaves length clocks_words (checking a.count ws (length old)) old b.why b.flow (check_table a.count ws (length old) b.why b.flow o.0) in
    record { answered = rw (p.1, p.2) (c.in_err-examine.ensures ∙ ap (answer length) o.0 ∙ e.0); stored = e.1 }

pub invariant_of-plan : goal.invariant_of-plan
invariant_of-plan c =
    let a = c.args in
    let g = examined true a.count a.words.now _ c.in_ok-examine.ensures refl in
    record { few = (table_made a.count a.words.now _ g).few; passed = g }

pub returns-then-clocks-size : goal.returns-then-clocks-size
returns-then-clocks-size c =
    let a = c.args in
    let ws = a.words.now in
    let old = a.clocks.now in
    let g = examined true a.count ws _ c.in_ok-examine.ensures refl in
    let e = refused_leaves length clocks_words (checking a.count ws (length old)) old NoRoom 0 (check_room a.count ws (length old) _ g c.if-clocks-size.true) in
    record { answered = rw c.at.ensures e.0; stored = e.1 }

pub returns-in_err-judged : goal.returns-in_err-judged
returns-in_err-judged c =
    let a = c.args in
    let ws = a.words.now in
    let old = a.clocks.now in
    let g = examined true a.count ws _ c.in_ok-examine.ensures refl in
    let b = c.in_err-judged.field-0.0 in
    let p = err_from_is_err_and c.from_residual-in_err-judged.result c.from_residual-in_err-judged.ensures.1 in
    let j = c.in_err-judged.ensures in
    let o = told_err length (clocks_of (rows_of a.count ws)) b j.value in
    let e = refused_leaves length clocks_words (checking a.count ws (length old)) old b.why b.flow (check_clocks a.count ws (length old) g c.if-clocks-size.false ∙ o.0) in
    record { answered = rw (p.1, p.2) (j.value ∙ ap (answer length) o.0 ∙ e.0); stored = e.1 }

pub returns : goal.returns
returns c =
    let a = c.args in
    let ws = a.words.now in
    let old = a.clocks.now in
    let g = examined true a.count ws _ c.in_ok-examine.ensures refl in
    let t = table_made a.count ws _ g in
    let j = c.in_ok-judged.ensures in
    let y = told_ok length (clocks_of (rows_of a.count ws)) c.in_ok-judged.judged j.value in
    let w = check_clocks a.count ws (length old) g c.if-clocks-size.false in
    record { answered = j.value ∙ ap (answer length) (sym w); stored = whole_given a.count ws old _ _ _ y.0 t y.1.0 w (j.assigned y.0 y.1.0) c.give_all.ensures }

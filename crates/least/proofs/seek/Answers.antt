use mathlib.Core.Path.{sym, ◌∙◌}
use Rattle.std.proofs.lemmas.Result.{err_from_is_err_and}
use Rattle.table.proofs.Tables.{table_made}
use Rattle.least.proofs.Choosing.{no_table, is_table, other_answer, set_found}
use Rattle.least.proofs.seek.Goals as goal

pub returns-in_err-examine : goal.returns-in_err-examine
returns-in_err-examine c =
    let a = c.args in
    let p = err_from_is_err_and c.from_residual.result c.from_residual.ensures.1 in
    rw (p.1, p.2) (no_table a.count a.words.now c.in_err-examine.field-0.0 c.in_err-examine.ensures)

pub returns-then-not-differs : goal.returns-then-not-differs
returns-then-not-differs c =
    let a = c.args in
    let t = is_table a.count a.words.now _ c.in_ok-examine.ensures in
    rw c.at.ensures (other_answer a.count a.words.now t (sym c.differs.ensures ∙ c.if-not-differs.true))

pub invariant_of-plan : goal.invariant_of-plan
invariant_of-plan c =
    let a = c.args in
    let t = is_table a.count a.words.now _ c.in_ok-examine.ensures in
    record { is_table = t; few = (table_made a.count a.words.now _ t).few }

pub returns : goal.returns
returns c =
    let a = c.args in
    let t = is_table a.count a.words.now _ c.in_ok-examine.ensures in
    set_found a.count a.words.now t (sym c.differs.ensures ∙ c.if-not-differs.false) c.least_set.result c.least_set.ensures

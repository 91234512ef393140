use mathlib.Core.Bool.{false≢true}
use mathlib.Core.Path.{sym, ◌∙◌}
use borrow.Author.Tests.{ltb-true}
use Rattle.table.specs.Rows.{kind_count}
use Rattle.table.proofs.Accepting.{barred_not, known_by}
use Rattle.table.proofs.rows.known.Goals as goal

pub returns-then-kind-barred : goal.returns-then-kind-barred
returns-then-kind-barred c = (λ rated e. sym (barred_not rated c.args.kind (c.if-kind-barred.true ∙ e)), λ e. absurd (false≢true e))

pub returns : goal.returns
returns c =
    let a = c.args in
    (λ rated e. sym (known_by rated a.kind (λ q. c.if-kind-barred.false (q ∙ sym e))), λ e. ltb-true a.kind kind_count e)

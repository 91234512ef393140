use borrow.Author.Tests.{eq-eqb, ne_eqb}
use Rattle.text.proofs.Writing.{none, joined}
use Rattle.lister.specs.Listing.{view_text}
use Rattle.lister.proofs.put_view.Goals as goal

pub returns-then-view-ne0 : goal.returns-then-view-ne0
unfolding view_text
returns-then-view-ne0 c = rw (ne_eqb c.args.view 0 c.if-view-ne0.true) (joined c.put.ensures c.put_decimal.ensures)

pub returns-else-view-ne0 : goal.returns-else-view-ne0
unfolding view_text
returns-else-view-ne0 c = rw (eq-eqb c.args.view 0 c.if-view-ne0.false) (none _)

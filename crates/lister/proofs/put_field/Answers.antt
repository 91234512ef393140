use borrow.Author.Rules.{rules}
use Rattle.text.proofs.Writing.{joined}
use Rattle.lister.proofs.put_field.Goals as goal

pub returns : goal.returns
returns c = search (rules, joined)

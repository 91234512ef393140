use borrow.Author.Tests.{le-leb, lt-leb}
use Rattle.table.proofs.put_record.Goals as goal

pub returns-then-words-row : goal.returns-then-words-row
returns-then-words-row c = rw (lt-leb _ _ c.if-words-row.true)

pub returns : goal.returns
returns c = rw (le-leb _ _ c.if-words-row.false) c.store_row.ensures

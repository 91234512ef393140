use borrow.Author.Rules.{rules}
use Rattle.text.proofs.Writing.{joined, begun}
use Rattle.lister.specs.Private.Words.{table_text}
use Rattle.lister.proofs.put_table.Goals as goal

pub returns : goal.returns
unfolding table_text
returns c =
    let w = joined c.put_bytes.ensures (joined c.put_decimal.ensures (joined c.put.ensures c.put_lines.ensures)) in
    let v = begun c.new-writer.ensures.first c.new-writer.ensures.unchanged w in
    search rules

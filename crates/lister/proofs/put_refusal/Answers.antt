use borrow.Author.Rules.{rules}
use Rattle.text.proofs.Writing.{joined, begun}
use Rattle.lister.specs.Listing.{refusal_text}
use Rattle.lister.proofs.Lines.{refusal_short}
use Rattle.lister.proofs.put_refusal.Goals as goal

pub returns : goal.returns
unfolding refusal_text
returns c =
    let n = c.number.ensures in
    let w = joined c.put_bytes.ensures (joined (rw n at c.put_field.ensures) (joined c.put_decimal.ensures c.put.ensures)) in
    let v = begun c.new-writer.ensures.first c.new-writer.ensures.unchanged w in
    record { wrote = search rules; len_bound = refusal_short _ _ (rw (← n) (search rules)) (search rules) }

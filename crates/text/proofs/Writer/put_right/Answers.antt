use Rattle.std.proofs.Common.{◌≡◌, ◌-◌, arith, length}
use Rattle.std.proofs.lemmas.List.{replicate_more}
use Rattle.text.specs.Text.{right, space, decimal}
use Rattle.text.proofs.Writing.{joined}
use Rattle.text.proofs.Writer.put_right.Goals as goal

pub blanks-preserved : goal.blanks-preserved
blanks-preserved c = rw (← replicate_more c.blanks.counter space) (joined c.blanks.invariant c.put.ensures)

pub returns : goal.returns
unfolding right
returns c =
    let n : c.blanks.counter ≡ c.args.width - length (decimal c.args.n) = omega (arith, c.saturating_sub-blanks.ensures, c.digits.ensures) in
    joined (rw n at c.blanks.invariant) c.put_decimal.ensures

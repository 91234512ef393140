use Rattle.text.proofs.Decimal.{decimal_one, decimal_more}
use Rattle.text.proofs.Writing.{joined}
use Rattle.text.proofs.Writer.+put_decimal.Goals as goal

-- n below 10: its digit
pub returns-then-n-lt10 : goal.returns-then-n-lt10
returns-then-n-lt10 t c = rw (decimal_one c.args.n c.if-n-lt10.true) c.put.ensures

-- n of more digits: those before the last, and then the last
pub returns : goal.returns
returns t c = rw (decimal_more c.args.n c.if-n-lt10.false) (joined c.put_decimal.ensures c.put-2.ensures)

use native.Mathlib.Omega.{arith}
use Rattle.table.proofs.Puts.{byte_in}
use Rattle.table.proofs.bits.byte_of.Goals as goal

pub returns-then-k-eq8 : goal.returns-then-k-eq8
returns-then-k-eq8 c = rw c.if-k-eq8.true (omega arith)

pub returns : goal.returns
returns c =
    let a = c.args in
    byte_in a.x a.y a.k (omega arith) (omega arith)

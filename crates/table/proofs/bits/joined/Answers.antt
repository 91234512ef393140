use mathlib.Core.Path.{refl, sym, ◌∙◌}
use native.Mathlib.Omega.{arith}
use Rattle.table.specs.Bits.{from_bits, bits}
use Rattle.table.proofs.Windows.{joined_more, joined_lt}
use Rattle.table.proofs.bits.joined.Goals as goal

pub loop-byte-init : goal.loop-byte-init
unfolding from_bits bits
loop-byte-init c = refl

pub join-x-requires : goal.join-x-requires
join-x-requires c =
    let l = c.loop-byte in
    (rw l.invariant (joined_lt c.args.bytes.now l.byte-index (omega arith)), rw c.from.ensures (omega (arith, c.row_known-1.given)))

pub loop-byte-preserved : goal.loop-byte-preserved
loop-byte-preserved c =
    let l = c.loop-byte in
    c.join-x.ensures ∙ rw (l.invariant, c.from.ensures)
    (sym (joined_more c.args.bytes.now l.byte-index (omega arith) (omega (arith, c.row_known-1.given))))

use native.Mathlib.Omega.{arith}
use Rattle.table.specs.Rows.{kind_at}
use Rattle.table.specs.Plain.{words_of}
use Rattle.table.specs.Bits.{to_bits}
use Rattle.table.specs.Packed.{kind_width}
use Rattle.table.specs.Lengths.{row_length}
use Rattle.table.proofs.Lengths.{row_le}
use Rattle.table.proofs.WriteLaws.{Number, number_kind, number_fits, number_more, number_row}
use Rattle.table.proofs.rows.Layout.number_of.Goals as goal

pub behind-one-requires : goal.behind-one-requires
unfolding row_length
behind-one-requires c =
    let r = c.args.r in
    let k = kind_at r.kind in
    let n0 : Number kind_width c.from.result (to_bits kind_width r.kind) = rw c.from.ensures (number_kind r.kind c.requires) in
    let m = number_fits k.one n0 c.at.ensures (omega (arith, row_le r.kind c.requires)) in
    (m.0, m.1)

pub behind-two-requires : goal.behind-two-requires
unfolding row_length
behind-two-requires c =
    let r = c.args.r in
    let k = kind_at r.kind in
    let n0 : Number kind_width c.from.result (to_bits kind_width r.kind) = rw c.from.ensures (number_kind r.kind c.requires) in
    let n1 = number_more k.one n0 c.at.ensures r.one c.behind-one.ensures in
    let m = number_fits k.two n1 c.at-2.ensures (omega (arith, row_le r.kind c.requires)) in
    (m.0, m.1)

pub behind-requires : goal.behind-requires
unfolding row_length
behind-requires c =
    let r = c.args.r in
    let k = kind_at r.kind in
    let n0 : Number kind_width c.from.result (to_bits kind_width r.kind) = rw c.from.ensures (number_kind r.kind c.requires) in
    let n1 = number_more k.one n0 c.at.ensures r.one c.behind-one.ensures in
    let n2 = number_more k.two n1 c.at-2.ensures r.two c.behind-two.ensures in
    let m = number_fits k.three n2 c.at-3.ensures (omega (arith, row_le r.kind c.requires)) in
    (m.0, m.1)

pub returns : goal.returns
returns c =
    let r = c.args.r in
    let k = kind_at r.kind in
    let n0 : Number kind_width c.from.result (to_bits kind_width r.kind) = rw c.from.ensures (number_kind r.kind c.requires) in
    let n1 = number_more k.one n0 c.at.ensures r.one c.behind-one.ensures in
    let n2 = number_more k.two n1 c.at-2.ensures r.two c.behind-two.ensures in
    let n3 = number_more k.three n2 c.at-3.ensures r.three c.behind.ensures in
    number_row (words_of r) c.requires n3

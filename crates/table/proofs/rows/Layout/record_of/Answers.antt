use mathlib.Core.Path.{◌≡◌, refl}
use Prim.Native.Nat.{◌+◌, ◌/◌, ◌%◌, ◌^◌}
use native.Mathlib.Omega.{arith}
use Rattle.table.specs.Rows.{width, Kind, kind_at}
use Rattle.table.specs.Private.Codes.{widths, fields_in}
use Rattle.table.proofs.Entries.{field_lt, field_width}
use Rattle.table.proofs.RowLaws.{two_widths}
use Rattle.table.proofs.rows.Layout.record_of.Goals as goal

pub overflow_add-one : goal.overflow_add-one
overflow_add-one c =
    let a = c.args in
    let k : Kind = kind_at a.kind in
    let two = field_width k.three c.at-c.result c.at-c.ensures a.self.now.width a.self.now.by_width in
    let one = field_width k.two c.at-b.result c.at-b.ensures a.self.now.width a.self.now.by_width in
    omega (arith, two, one, two_widths a.kind c.requires)

pub part-requires : goal.part-requires
part-requires c =
    let a = c.args in
    let k : Kind = kind_at a.kind in
    let two = field_width k.three c.at-c.result c.at-c.ensures a.self.now.width a.self.now.by_width in
    let one = field_width k.two c.at-b.result c.at-b.ensures a.self.now.width a.self.now.by_width in
    (omega (arith, two, one, two_widths a.kind c.requires), field_lt k.one c.at.result c.at.ensures)

pub part-requires-2 : goal.part-requires-2
part-requires-2 c =
    let a = c.args in
    let k : Kind = kind_at a.kind in
    let two = field_width k.three c.at-c.result c.at-c.ensures a.self.now.width a.self.now.by_width in
    (omega (arith, two, two_widths a.kind c.requires), field_lt k.two c.at-b.result c.at-b.ensures)

pub part-requires-3 : goal.part-requires-3
part-requires-3 c =
    let a = c.args in
    (omega arith, field_lt (kind_at a.kind).three c.at-c.result c.at-c.ensures)

pub returns : goal.returns
unfolding fields_in
returns c =
    let a = c.args in
    let k : Kind = kind_at a.kind in
    let v1 = field_width k.one c.at.result c.at.ensures widths refl in
    let v2 = field_width k.two c.at-b.result c.at-b.ensures in
    let v3 = field_width k.three c.at-c.result c.at-c.ensures in
    let w2 = v2 a.self.now.width a.self.now.by_width in
    let w3 = v3 a.self.now.width a.self.now.by_width in
    let one : c.part.result ≡ a.x / 2 ^ (width k.three + width k.two) % 2 ^ width k.one = rw (w3, w2, v1) at c.part.ensures in
    let two : c.part-2.result ≡ a.x / 2 ^ width k.three % 2 ^ width k.two = rw (w3, v2 widths refl) at c.part-2.ensures in
    let three : c.part-3.result ≡ a.x / 2 ^ 0 % 2 ^ width k.three = rw (v3 widths refl) at c.part-3.ensures in
    rw (one, two, three)

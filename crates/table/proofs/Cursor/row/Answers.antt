use mathlib.Core.Path.{◌≡◌, refl, sym, ap, ◌∙◌}
use Prim.Native.Nat.{ℕ, ◌+◌, ◌-◌, ◌*◌, ◌≤◌}
use native.Mathlib.Omega.{arith}
use lib.ListN.{length}
use Rattle.std.specs.Prelude.{Some}
use Rattle.table.specs.Bits.{bits}
use Rattle.table.specs.Packed.{kind_width}
use Rattle.table.specs.Places.{take_at_bit, taking_parts}
use Rattle.table.proofs.BitLaws.{length_bits}
use Rattle.table.proofs.Lengths.{row_le}
use Rattle.table.proofs.RowLaws.{no_kind_lem, bad_kind, row_ge, kind_past, cut_row, found}
use Rattle.table.proofs.Cursor.row.Goals as goal

pub returns-in_default : goal.returns-in_default
returns-in_default c =
    let a = c.args in
    let p = c.requires in
    rw c.at.ensures (refl, no_kind_lem (bits a.s.now) a.self.at p.0 p.1 (sym c.take.ensures ∙ ap taking_parts c.in_default.is))

pub returns-then-kind-ge-KINDS : goal.returns-then-kind-ge-KINDS
returns-then-kind-ge-KINDS c =
    let a = c.args in
    let p = c.requires in
    let k : ℕ = c.in-Some.kind in
    let bs = bits a.s.now in
    let e0 : take_at_bit bs a.self.at kind_width ≡ taking_parts (Some (k, c.in-Some.first)) = sym c.take.ensures ∙ ap taking_parts c.in-Some.is in
    rw c.at-then-kind-ge-KINDS.ensures (refl, bad_kind bs a.self.at p.0 p.1 k c.in-Some.first e0 c.if-kind-ge-KINDS.true)

pub overflow_add-end : goal.overflow_add-end
overflow_add-end c = omega (arith, c.length_of.ensures, row_le _ c.if-kind-ge-KINDS.false, c.requires.0)

pub byte_count-requires : goal.byte_count-requires
byte_count-requires c = omega (arith, c.length_of.ensures, row_le _ c.if-kind-ge-KINDS.false, c.requires.0)

pub returns-then-s-byte_count : goal.returns-then-s-byte_count
returns-then-s-byte_count c =
    let a = c.args in
    let p = c.requires in
    let k : ℕ = c.in-Some.kind in
    let bs = bits a.s.now in
    let e0 : take_at_bit bs a.self.at kind_width ≡ taking_parts (Some (k, c.in-Some.first)) = sym c.take.ensures ∙ ap taking_parts c.in-Some.is in
    let len = ap (λ (n : ℕ). a.self.at + n) c.length_of.ensures in
    let h = rw c.byte_count.ensures at c.if-s-byte_count.true in
    rw c.at-then-s-byte_count.ensures (refl, cut_row bs a.self.at p.0 p.1 k c.in-Some.first e0 c.if-kind-ge-KINDS.false _ len (omega (arith, length_bits a.s.now, h)))

pub overflow_sub-end : goal.overflow_sub-end
overflow_sub-end c =
    let a = c.args in
    let p = c.requires in
    let k : ℕ = c.in-Some.kind in
    let bs = bits a.s.now in
    let e0 : take_at_bit bs a.self.at kind_width ≡ taking_parts (Some (k, c.in-Some.first)) = sym c.take.ensures ∙ ap taking_parts c.in-Some.is in
    omega (arith, c.length_of.ensures, kind_past bs a.self.at p.0 p.1 k c.in-Some.first e0, row_ge k)

pub number_at-x-requires : goal.number_at-x-requires
number_at-x-requires c =
    let a = c.args in
    let p = c.requires in
    let k : ℕ = c.in-Some.kind in
    let bs = bits a.s.now in
    let e0 : take_at_bit bs a.self.at kind_width ≡ taking_parts (Some (k, c.in-Some.first)) = sym c.take.ensures ∙ ap taking_parts c.in-Some.is in
    let len = c.length_of.ensures in
    let past = kind_past bs a.self.at p.0 p.1 k c.in-Some.first e0 in
    let h = rw c.byte_count.ensures at c.if-s-byte_count.false in
    let end : ℕ = a.self.at + c.length_of.result in
    let there : c.in-Some.first.at + (end - c.in-Some.first.at) ≤ 8 * length a.s.now = omega (arith, len, past, row_ge k, h) in
    (omega (arith, past, p.0), omega (arith, len, past, row_le k c.if-kind-ge-KINDS.false), there)

pub returns : goal.returns
returns c =
    let a = c.args in
    let p = c.requires in
    let k : ℕ = c.in-Some.kind in
    let bs = bits a.s.now in
    let e0 : take_at_bit bs a.self.at kind_width ≡ taking_parts (Some (k, c.in-Some.first)) = sym c.take.ensures ∙ ap taking_parts c.in-Some.is in
    let len = ap (λ (n : ℕ). a.self.at + n) c.length_of.ensures in
    let h = rw c.byte_count.ensures at c.if-s-byte_count.false in
    found bs a.self.at p.0 p.1 k c.in-Some.first e0 c.if-kind-ge-KINDS.false _ len c.number_at-x.result c.record_of.result
    (omega (arith, length_bits a.s.now, h)) c.number_at-x.ensures c.record_of.ensures

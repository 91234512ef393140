use mathlib.Core.Path.{◌≡◌, sym, ap, ◌∙◌}
use mathlib.Core.Bool.{true}
use Prim.Native.Nat.{◌*◌, ◌≤◌}
use native.Mathlib.Omega.{arith}
use lib.ListN.{length}
use borrow.Author.Tests.{not-true, not-false}
use Rattle.std.specs.Prelude.{Some}
use Rattle.std.proofs.lemmas.Result.{err_from_is_err_and}
use Rattle.table.specs.declared.refusal.Refusal.TheVariants.{CutShort}
use Rattle.table.specs.Rows.{row_size}
use Rattle.table.specs.Plain.{count_fits}
use Rattle.table.specs.Bits.{bits}
use Rattle.table.specs.Packed.{count_width}
use Rattle.table.specs.Places.{take_at_bit, taking_parts}
use Rattle.table.specs.Private.Steps.{Ended}
use Rattle.table.proofs.ReadLaws.{none_is, no_count, count_there, bad_count_lem, count_few, scan_stopped, filled, not_filled}
use Rattle.table.proofs.unpack.unpack.Goals as goal

pub returns-in_err-count : goal.returns-in_err-count
returns-in_err-count c =
    let p = err_from_is_err_and c.from_residual.result c.from_residual.ensures.1 in
    let d = c.in_err-count.ensures in
    let none = d.ok_part in
    let short : c.in_err-count.field-0.0 ≡ CutShort = none_is c.first_field.result c.in_err-count.field-0.0 CutShort d.value none in
    rw (p.1, p.2, short) (no_count c.args.s.now (sym c.first_field.ensures ∙ ap taking_parts none))

pub returns-then-not-count_fits : goal.returns-then-not-count_fits
returns-then-not-count_fits c =
    let s = c.args.s.now in
    let n = c.in_ok-count.count in
    let q = c.in_ok-count.field-0-1 in
    let e : take_at_bit (bits s) 0 count_width ≡ taking_parts (Some (n, q)) = sym c.first_field.ensures ∙ ap taking_parts c.in_ok-count.ensures.ok_part in
    rw c.at.ensures (bad_count_lem s n q e (sym c.count_fits.ensures ∙ not-true c.count_fits.result c.if-not-count_fits.true-raw))

pub scan_rows-requires : goal.scan_rows-requires
scan_rows-requires c =
    let s = c.args.s.now in
    let n = c.in_ok-count.count in
    let q = c.in_ok-count.field-0-1 in
    let e : take_at_bit (bits s) 0 count_width ≡ taking_parts (Some (n, q)) = sym c.first_field.ensures ∙ ap taking_parts c.in_ok-count.ensures.ok_part in
    let fits : count_fits n ≡ true = sym c.count_fits.ensures ∙ not-false c.count_fits.result c.if-not-count_fits.false-raw in
    let few = count_few s n q e fits in
    let room : row_size * n ≤ length c.args.words.now = omega (arith, few, c.requires) in
    (few, count_there s n q e, room)

pub returns-in_err-end : goal.returns-in_err-end
returns-in_err-end c =
    let s = c.args.s.now in
    let n = c.in_ok-count.count in
    let q = c.in_ok-count.field-0-1 in
    let e : take_at_bit (bits s) 0 count_width ≡ taking_parts (Some (n, q)) = sym c.first_field.ensures ∙ ap taking_parts c.in_ok-count.ensures.ok_part in
    let fits : count_fits n ≡ true = sym c.count_fits.ensures ∙ not-false c.count_fits.result c.if-not-count_fits.false-raw in
    let p = err_from_is_err_and c.from_residual-in_err-end.result c.from_residual-in_err-end.ensures.1 in
    rw (p.1, p.2) (scan_stopped s n q e fits c.in_err-end.field-0.0 c.in_err-end.ensures)

pub ends-requires : goal.ends-requires
ends-requires c =
    let d : Ended (bits c.args.s.now) c.in_ok-count.count c.scan_rows.new.words c.in_ok-end.end = c.in_ok-end.ensures in
    (d.near, d.within)

pub returns-then-not-ends : goal.returns-then-not-ends
returns-then-not-ends c =
    let s = c.args.s.now in
    let n = c.in_ok-count.count in
    let q = c.in_ok-count.field-0-1 in
    let e : take_at_bit (bits s) 0 count_width ≡ taking_parts (Some (n, q)) = sym c.first_field.ensures ∙ ap taking_parts c.in_ok-count.ensures.ok_part in
    let fits : count_fits n ≡ true = sym c.count_fits.ensures ∙ not-false c.count_fits.result c.if-not-count_fits.false-raw in
    rw c.at-then-not-ends.ensures
    (not_filled s n q e fits c.scan_rows.new.words c.in_ok-end.end c.in_ok-end.ensures (sym c.ends.ensures ∙ not-true c.ends.result c.if-not-ends.true-raw))

pub returns : goal.returns
returns c =
    let s = c.args.s.now in
    let n = c.in_ok-count.count in
    let q = c.in_ok-count.field-0-1 in
    let e : take_at_bit (bits s) 0 count_width ≡ taking_parts (Some (n, q)) = sym c.first_field.ensures ∙ ap taking_parts c.in_ok-count.ensures.ok_part in
    let fits : count_fits n ≡ true = sym c.count_fits.ensures ∙ not-false c.count_fits.result c.if-not-count_fits.false-raw in
    filled s n q e fits c.scan_rows.new.words c.in_ok-end.end c.in_ok-end.ensures (sym c.ends.ensures ∙ not-false c.ends.result c.if-not-ends.false-raw)

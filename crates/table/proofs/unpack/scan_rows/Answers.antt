use mathlib.Core.Bool.{false}
use mathlib.Core.Path.{◌≡◌, refl, sym, ap, ◌∙◌}
use Prim.Native.Nat.{ℕ, ◌+◌, ◌*◌, ◌≤◌}
use mathlib.Core.List.{List}
use native.Mathlib.Omega.{arith}
use lib.Dec.{eqb}
use lib.ListN.{length, set}
use Rattle.std.proofs.lemmas.Result.{err_from_is_err_and}
use borrow.Author.Tests.{not-true, not-false}
use Rattle.table.specs.Rows.{row_of, row_size}
use Rattle.table.specs.Plain.{words_of}
use Rattle.table.specs.Bits.{bits}
use Rattle.table.specs.Private.Codes.{verdict}
use Rattle.table.specs.Private.Steps.{Found}
use Rattle.table.proofs.StoreLaws.{unpacking_starts, unpacking_ends, unpacking_stops, unpacking_refused, unpacking_goes}
use borrow.Author.Rules.{rules}
use Rattle.table.proofs.unpack.scan_rows.Goals as goal

pub loop-row-init : goal.loop-row-init
loop-row-init c =
    let a = c.args in
    (search rules, search rules, refl, rw c.from.ensures refl, unpacking_starts (bits a.s.now) a.count a.words.now)

pub returns-in_err-r : goal.returns-in_err-r
returns-in_err-r c =
    let a = c.args in
    let l = c.loop-row in
    let p = err_from_is_err_and c.from_residual.result c.from_residual.ensures.1 in
    let d = c.in_err-r.ensures in
    rw (p.1, p.2) (unpacking_stops (bits a.s.now) a.count l.row l.cursor.at l.words l.invariant.4 c.loop-row-test.true c.in_err-r.field-0.0 d.0 d.1)

pub returns-then-not-accepts : goal.returns-then-not-accepts
returns-then-not-accepts c =
    let a = c.args in
    let l = c.loop-row in
    let bs = bits a.s.now in
    let d : Found bs l.cursor.at c.in_ok-r.r c.in_ok-r.next = c.in_ok-r.ensures in
    let below = c.loop-row-test.true in
    let t = c.accepts in
    let told : t.result ≡ eqb (verdict (row_of a.count l.row (words_of c.in_ok-r.r))) 0 = t.ensures false a.count l.row refl c.requires.0 (omega arith) (rw c.from-in-loop-row.ensures l.invariant.3) in
    let false-told = sym told ∙ not-true t.result c.if-not-accepts.true-raw in
    rw c.at.ensures (unpacking_refused bs a.count l.row l.cursor.at l.words l.invariant.4 below c.in_ok-r.r c.in_ok-r.next d c.why.result false-told
    (c.why.ensures a.count l.row false-told))

pub store_row-requires : goal.store_row-requires
store_row-requires c =
    let l = c.loop-row in
    let fits : row_size * l.row + row_size ≤ length l.words = omega (arith, l.invariant.2, c.requires.2, c.loop-row-test.true) in
    fits

pub loop-row-preserved : goal.loop-row-preserved
loop-row-preserved c =
    let a = c.args in
    let l = c.loop-row in
    let bs = bits a.s.now in
    let d : Found bs l.cursor.at c.in_ok-r.r c.in_ok-r.next = c.in_ok-r.ensures in
    let below = c.loop-row-test.true in
    let t = c.accepts in
    let told : t.result ≡ eqb (verdict (row_of a.count l.row (words_of c.in_ok-r.r))) 0 = t.ensures false a.count l.row refl c.requires.0 (omega arith) (rw c.from-in-loop-row.ensures l.invariant.3) in
    let s = c.store_row in (
      omega (arith, d.near, l.invariant.0),
      d.within,
      s.auto.words ∙ l.invariant.2,
      rw c.from-in-loop-row.ensures (ap (λ (b : List ℕ). set b 0 (l.row + 1)) l.invariant.3),
      unpacking_goes bs a.count l.row l.cursor.at l.words l.invariant.4 below c.in_ok-r.r c.in_ok-r.next d s.new.words
          (sym told ∙ not-false t.result c.if-not-accepts.false-raw) (omega (arith, c.requires.2, l.invariant.2)) s.ensures,
    )

pub returns : goal.returns
returns c =
    let a = c.args in
    let l = c.loop-row in
    unpacking_ends (bits a.s.now) a.count l.row l.cursor.at l.words l.invariant.4 l.cursor refl (omega arith) (omega (arith, l.invariant.0)) l.invariant.1

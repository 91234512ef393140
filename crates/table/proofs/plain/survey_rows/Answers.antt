use mathlib.Core.Bool.{Bool, false, not}
use mathlib.Core.List.{List, []}
use mathlib.Core.Path.{◌≡◌, refl, sym, ◌∙◌, ap}
use Prim.Native.Nat.{ℕ, ◌+◌, ◌-◌, ◌*◌, ◌<◌}
use native.Mathlib.Nat.{sub-zero}
use native.Mathlib.Omega.{arith}
use lib.Dec.{eqb}
use lib.ListN.{drop, set}
use borrow.Author.Tests.{eqb-true, not-true, not-false}
use borrow.Author.Rules.{rules}
use Rattle.table.specs.Answers.{number}
use Rattle.table.specs.Rows.{row_size}
use Rattle.table.specs.Plain.{split, rows_from, words_of}
use Rattle.table.specs.Packed.{rows_bits}
use Rattle.table.proofs.Accepting.{not_zero}
use Rattle.table.proofs.Lengths.{row_le}
use Rattle.table.proofs.Records.{kind_lt, survey_stop, survey_next, size_next, split_end}
use Rattle.table.proofs.plain.survey_rows.Goals as goal

-- the row was accepted where the test says so
accepted : (v : ℕ) (r : Bool) → r ≡ eqb v 0 → not r ≡ false → v ≡ 0
accepted v r t h = eqb-true v 0 (sym t ∙ not-false r h)

pub loop-row-init : goal.loop-row-init
loop-row-init c = (search rules, rw c.from.ensures refl, rw sub-zero, rw sub-zero)

pub returns-then-not-accepts : goal.returns-then-not-accepts
returns-then-not-accepts c =
    let a = c.args in
    let l = c.loop-row in
    let r = c.record_at-r in
    let told = c.accepts.ensures a.rated a.count l.row c.barred_kind-barred.ensures c.requires.0 (omega (arith, c.requires.0, c.loop-row-test.true)) (rw c.from-in-loop-row.ensures l.invariant.1) in
    let n = sym told ∙ not-true c.accepts.result c.if-not-accepts.true-raw in
    let w = c.why.ensures a.count l.row n in
    rw c.at.ensures (
      sym l.invariant.2 ∙ survey_stop a.rated a.count l.row a.words.now (words_of r.result) r.ensures
          c.loop-row-test.true (number c.why.result) w (not_zero (number c.why.result) _ w n),
      tt,
    )

pub length_of-bits-requires : goal.length_of-bits-requires
length_of-bits-requires c =
    let a = c.args in
    let l = c.loop-row in
    let r = c.record_at-r in
    let told = c.accepts.ensures a.rated a.count l.row c.barred_kind-barred.ensures c.requires.0 (omega (arith, c.requires.0, c.loop-row-test.true)) (rw c.from-in-loop-row.ensures l.invariant.1) in
    let taken = accepted _ c.accepts.result told c.if-not-accepts.false-raw in
    let known = kind_lt a.rated a.count l.row (words_of r.result) taken in
    known

pub overflow_add-bits : goal.overflow_add-bits
overflow_add-bits c =
    let a = c.args in
    let l = c.loop-row in
    let r = c.record_at-r in
    let told = c.accepts.ensures a.rated a.count l.row c.barred_kind-barred.ensures c.requires.0 (omega (arith, c.requires.0, c.loop-row-test.true)) (rw c.from-in-loop-row.ensures l.invariant.1) in
    let taken = accepted _ c.accepts.result told c.if-not-accepts.false-raw in
    let known = kind_lt a.rated a.count l.row (words_of r.result) taken in
    omega (arith, c.length_of-bits.ensures, row_le _ known)

pub loop-row-preserved : goal.loop-row-preserved
loop-row-preserved c =
    let a = c.args in
    let l = c.loop-row in
    let r = c.record_at-r in
    let told = c.accepts.ensures a.rated a.count l.row c.barred_kind-barred.ensures c.requires.0 (omega (arith, c.requires.0, c.loop-row-test.true)) (rw c.from-in-loop-row.ensures l.invariant.1) in
    let taken = accepted _ c.accepts.result told c.if-not-accepts.false-raw in
    let known = kind_lt a.rated a.count l.row (words_of r.result) taken in
    let f : l.row < a.count = c.loop-row-test.true in (
      omega (arith, c.length_of-bits.ensures, row_le _ known),
      rw c.from-in-loop-row.ensures (ap (λ (b : List ℕ). set b 0 (l.row + 1)) l.invariant.1),
      survey_next a.rated a.count l.row a.words.now (words_of r.result) r.ensures f taken ∙ l.invariant.2,
      omega (arith, c.length_of-bits.ensures, size_next a.rated a.count l.row a.words.now (words_of r.result) r.ensures f taken, l.invariant.3),
    )

pub returns : goal.returns
unfolding rows_from rows_bits
returns c =
    let a = c.args in
    let l = c.loop-row in
    let e : split (a.count - l.row) (drop (row_size * l.row) a.words.now) ≡ [] = split_end a.count l.row a.words.now (omega arith) c.loop-row-test.false in
    (sym (rw e at l.invariant.2), omega (arith, c.byte_count.ensures, rw e at l.invariant.3))

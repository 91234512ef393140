use mathlib.Core.Path.{refl, ◌∙◌}
use lib.ListN.{drop}
use lib.Seq.{length-take-le}
use native.Mathlib.Omega.{arith}
use Rattle.std.proofs.lemmas.Result.{err_from_is_err_and}
use Rattle.table.proofs.WriteLaws.{ready, front_below, write_refused, write_full, write_done}
use Rattle.table.proofs.write.Goals as goal

pub returns-in_err-bytes : goal.returns-in_err-bytes
returns-in_err-bytes c =
    let a = c.args in
    let p = err_from_is_err_and c.from_residual.result c.from_residual.ensures.1 in
    let d = write_refused a.count c.in_err-bytes.field-0.0 a.words.now a.packed.now c.in_err-bytes.ensures.0 in
    record { answered = rw (p.1, p.2) d.0; stored = d.1 }

pub returns-then-packed-bytes : goal.returns-then-packed-bytes
returns-then-packed-bytes c =
    let a = c.args in
    let z = c.in_ok-bytes.ensures in
    let d = write_full a.count c.in_ok-bytes.bytes a.words.now a.packed.now z.0 z.1.0 c.if-packed-bytes.true in
    record { answered = rw c.at.ensures d.0; stored = d.1 }

pub put_table-requires : goal.put_table-requires
put_table-requires c =
    let a = c.args in
    let z = c.in_ok-bytes.ensures in
    (ready a.count a.words.now z.0, length-take-le c.in_ok-bytes.bytes a.packed.now c.if-packed-bytes.false ∙ z.1.0)

pub returns : goal.returns
returns c =
    let a = c.args in
    let z = c.in_ok-bytes.ensures in
    let p = c.put_table in
    let d = write_done a.count c.in_ok-bytes.bytes a.words.now a.packed.now z.0 z.1.0
    p.new.out _ c.if-packed-bytes.false (front_below p.new.out (drop c.in_ok-bytes.bytes a.packed.now) (λ k. omega (arith, c.slice_known-2-1.given k))) p.ensures refl in
    record { answered = d.0; stored = d.1 }

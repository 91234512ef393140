use Prim.Native.Nat.{◌*◌, ◌≤◌}
use native.Mathlib.Omega.{arith}
use lib.ListN.{length}
use Rattle.std.proofs.lemmas.Result.{err_from_is_err_and}
use Rattle.table.specs.Rows.{row_size}
use Rattle.table.proofs.ReadLaws.{read_refused, whole_few, read_full, read_done}
use Rattle.table.proofs.read.Goals as goal

pub returns-in_err-count : goal.returns-in_err-count
returns-in_err-count c =
    let p = err_from_is_err_and c.from_residual.result c.from_residual.ensures.1 in
    let r = read_refused c.args.packed.now c.args.words.now c.in_err-count.field-0.0 c.in_err-count.ensures in
    record { answered = rw (p.1, p.2) r.0; stored = r.1 }

pub returns-then-words-size : goal.returns-then-words-size
returns-then-words-size c =
    let r = read_full c.args.packed.now c.unpack.new.words c.in_ok-count.count c.in_ok-count.ensures c.args.words.now c.if-words-size.true in
    record { answered = rw c.at.ensures r.0; stored = r.1 }

pub returns : goal.returns
returns c =
    let s = c.args.packed.now in
    let u = c.unpack in
    let n = c.in_ok-count.count in
    let w = c.in_ok-count.ensures in
    let there : row_size * n ≤ length u.new.words = omega (arith, whole_few s u.new.words n w, u.auto.words) in
    let r = read_done s u.new.words n w c.args.words.now c.copy.new.to there c.if-words-size.false c.copy.ensures in
    record { answered = r.0; stored = r.1 }

use native.Mathlib.Omega.{arith}
use Rattle.std.proofs.lemmas.Result.{err_from_is_err_and}
use Rattle.table.specs.Rows.{row_size}
use Rattle.table.specs.Plain.{joined}
use Rattle.reach.specs.Sets.{has}
use Rattle.least.specs.Parts.{part_rows}
use Rattle.least.proofs.PartTables.{rows_count}
use Rattle.least.proofs.Choosing.{giving_rows, handed_on, no_room_lem, laid}
use Rattle.least.proofs.least.Goals as goal

pub returns-in_err-set : goal.returns-in_err-set
returns-in_err-set c =
    let a = c.args in
    let ws = a.words.now in
    let p = err_from_is_err_and c.from_residual.result c.from_residual.ensures.1 in
    let both = handed_on row_size (part_rows a.count ws) joined a.count ws a.part.now c.in_err-set.field-0.0 c.in_err-set.ensures in
    record { answered = rw (p.1, p.2) both.0; stored = both.1 }

pub returns-then-part-rank : goal.returns-then-part-rank
returns-then-part-rank c =
    let a = c.args in
    let ws = a.words.now in
    let both = no_room_lem row_size (part_rows a.count ws) joined a.count ws a.part.now _ c.in_ok-set.ensures c.rank.result c.rank.ensures (omega (arith, c.if-part-rank.true)) in
    record { answered = rw c.at.ensures both.0; stored = both.1 }

pub returns : goal.returns
returns c =
    let a = c.args in
    let ws = a.words.now in
    let set = c.in_ok-set.set in
    let g = c.in_ok-set.ensures in
    let p = c.store_rows in
    let both = laid row_size (part_rows a.count ws) joined a.count ws a.part.now set g p.result p.ensures.value
    (omega (arith, c.rank.ensures, p.ensures.value, c.if-part-rank.false)) (rows_count ws (has set) a.count) (giving_rows a.count ws set g) p.new.rows p.ensures.rows_after in
    record { answered = both.0; stored = both.1 }

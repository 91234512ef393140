use Rattle.std.proofs.lemmas.Result.{err_from_is_err_and}
use Rattle.reach.proofs.Answering.{handed_on, is_table, no_room_lem, done}
use Rattle.reach.proofs.reach.Goals as goal

pub returns-in_err-examine : goal.returns-in_err-examine
returns-in_err-examine c =
    let a = c.args in
    let p = err_from_is_err_and c.from_residual.result c.from_residual.ensures.1 in
    let both = handed_on a.count a.words.now a.sets.now c.in_err-examine.field-0.0 c.in_err-examine.ensures in
    record { answered = rw (p.1, p.2) both.0; stored = both.1 }

pub returns-then-sets-n : goal.returns-then-sets-n
returns-then-sets-n c =
    let a = c.args in
    let t = is_table a.count a.words.now a.sets.now _ c.in_ok-examine.ensures in
    let both = no_room_lem a.count a.words.now a.sets.now t c.if-sets-n.true in
    record { answered = rw c.at.ensures both.0; stored = both.1 }

pub close-requires-clause-table : goal.close-requires-clause-table
close-requires-clause-table c =
    let a = c.args in is_table a.count a.words.now a.sets.now _ c.in_ok-examine.ensures

pub returns : goal.returns
returns c =
    let a = c.args in
    let t = is_table a.count a.words.now a.sets.now _ c.in_ok-examine.ensures in
    let both = done a.count a.words.now a.sets.now t c.close.new.sets c.if-sets-n.false c.close.ensures in
    record { answered = both.0; stored = both.1 }

use Prim.Native.Nat.{ℕ, ◌*◌, ◌≤◌}
use native.Mathlib.Omega.{arith}
use lib.ListN.{length, replicate, length-replicate}
use Rattle.std.proofs.lemmas.Result.{err_from_is_err_and}
use Rattle.table.specs.Rows.{max_flows}
use Rattle.checker.specs.Answers.{clock_size}
use Rattle.influence.proofs.Calls.{handed_on, few, no_room_lem, sets_for, first_sets, done}
use Rattle.influence.proofs.felt.Goals as goal

-- the buffer of the clocks has room for any plan
wide : clock_size * max_flows ≤ length (replicate {A = ℕ} (clock_size * max_flows) 0)
wide = omega (arith, length-replicate {A = ℕ} (clock_size * max_flows) 0)

pub returns-in_err-check : goal.returns-in_err-check
returns-in_err-check c =
    let a = c.args in
    let p = err_from_is_err_and c.from_residual.result c.from_residual.ensures.1 in
    let both = handed_on a.count a.words.now _ wide c.in_err-check.field-0.0 c.in_err-check.ensures.answered a.sets.now in
    record { answered = rw (p.1, p.2) both.0; stored = both.1 }

pub returns-in_err-reached : goal.returns-in_err-reached
returns-in_err-reached c =
    let a = c.args in
    let k = c.in_err-reached in
    let p = err_from_is_err_and c.from_residual-in_err-reached.result c.from_residual-in_err-reached.ensures.1 in
    let both = no_room_lem a.count a.words.now _ wide c.in_ok-check.ensures.answered a.sets.now _ k.field-0.0 k.ensures.answered k.ensures.stored in
    record { answered = rw (p.1, p.2) both.0; stored = both.1 }

pub inputs-requires : goal.inputs-requires
inputs-requires c = few c.args.count c.args.words.now _ wide c.in_ok-check.ensures.answered

pub slice_bounds-keep-end : goal.slice_bounds-keep-end
slice_bounds-keep-end c =
    let a = c.args in
    let k = c.in_ok-reached in
    sets_for a.count a.words.now _ wide c.in_ok-check.ensures.answered a.sets.now _ k.ensures.answered k.ensures.stored

pub slice_bounds-keep-end-2 : goal.slice_bounds-keep-end-2
slice_bounds-keep-end-2 c =
    let a = c.args in
    let k = c.in_ok-reached in
    first_sets a.count a.words.now _ wide c.in_ok-check.ensures.answered a.sets.now _ k.ensures.answered k.ensures.stored

pub returns : goal.returns
returns c =
    let a = c.args in
    let k = c.in_ok-reached in
    let both = done a.count a.words.now _ wide c.in_ok-check.ensures.answered a.sets.now _ k.ensures.answered k.ensures.stored c.inputs.result c.keep.new.sets
    c.inputs.ensures c.keep.ensures in
    record { answered = both.0; stored = both.1 }

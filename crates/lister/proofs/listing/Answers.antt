use mathlib.Core.Path.{refl}
use mathlib.Core.List.{List}
use Prim.Native.Nat.{ℕ, ◌*◌}
use native.Mathlib.Omega.{arith}
use lib.ListN.{replicate}
use Rattle.text.proofs.Writing.{no_further}
use Rattle.table.specs.Rows.{max_flows}
use Rattle.checker.specs.Answers.{clock_size}
use Rattle.lister.proofs.Texts.{refusal_listed, table_listed, no_room_lem, all_room}
use Rattle.lister.proofs.listing.Goals as goal

-- the buffer of the clocks
abbrev zeros : List ℕ
zeros = replicate (clock_size * max_flows) 0

pub returns-then-text-lt-LONGEST : goal.returns-then-text-lt-LONGEST
returns-then-text-lt-LONGEST c =
    let both = no_room_lem _ _ c.if-text-lt-LONGEST.true in
    record { answered = rw c.at.ensures both.0; stored = both.1 }

-- a plan that was accepted

pub put_table-requires : goal.put_table-requires
put_table-requires c =
    let k = c.in-Ok in
    let t = table_listed c.args.packed.now k.count zeros c.check_packed.new.clocks k.ensures.answered refl k.ensures.stored in
    omega (arith, c.check_packed.auto.clocks, t.0)

pub overflow_cast-result : goal.overflow_cast-result
overflow_cast-result c =
    let k = c.in-Ok in
    let t = table_listed c.args.packed.now k.count zeros c.check_packed.new.clocks k.ensures.answered refl k.ensures.stored in
    omega (arith, no_further c.put_table.ensures, t.1)

pub returns-in-Ok : goal.returns-in-Ok
returns-in-Ok c =
    let k = c.in-Ok in
    let bs = c.args.packed.now in
    let t = table_listed bs k.count zeros c.check_packed.new.clocks k.ensures.answered refl k.ensures.stored in
    let both = all_room bs c.if-text-lt-LONGEST.false t.1 t.2 c.put_table.ensures in
    record { answered = both.0; stored = both.1 }

-- a refusal

pub returns-in-Err : goal.returns-in-Err
returns-in-Err c =
    let w = c.put_refusal.ensures in
    let k = c.in-Err in
    let bs = c.args.packed.now in
    let both = all_room bs c.if-text-lt-LONGEST.false w.len_bound (refusal_listed bs k.refused k.ensures.answered) w.wrote in
    record { answered = both.0; stored = both.1 }

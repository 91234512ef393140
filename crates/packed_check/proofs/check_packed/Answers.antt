use mathlib.Core.Path.{◌≡◌, sym, ◌∙◌, ap}
use Prim.Native.Nat.{ℕ, ◌*◌, ◌≤◌}
use native.Mathlib.Omega.{arith}
use mathlib.Core.List.{List}
use lib.ListN.{length, replicate}
use lib.Seq.{length-take-le}
use Rattle.std.specs.Prelude.{Err}
use Rattle.table.specs.Answers.{answer, leaves, parts}
use Rattle.table.specs.Rows.{max_flows, row_size}
use Rattle.table.specs.Packed.{read_answer}
use Rattle.table.proofs.AnswerLaws.{refused_leaves}
use Rattle.checker.specs.Answers.{clocks_words}
use Rattle.packed_check.specs.Checked.{checked_in}
use Rattle.packed_check.proofs.Joined.{read_into, read_few, read_refused, checked_refused, checked_words}
use Rattle.packed_check.proofs.check_packed.Goals as goal

abbrev zeros : List ℕ
zeros = replicate (row_size * max_flows) 0

pub returns-in_default : goal.returns-in_default
returns-in_default c =
    let bs : List ℕ = c.args.packed.now in
    let old : List ℕ = c.args.clocks.now in
    let b = c.in_default.field-0 in
    let told : parts (Err b) ≡ read_answer bs (row_size * max_flows) = sym (ap parts c.in_default.is) ∙ c.read-reading.ensures.answered in
    let r = read_refused bs b told in
    let e = refused_leaves length clocks_words (checked_in bs (length old)) old b.why b.flow (checked_refused bs (length old) b.why b.flow r.0) in
    record { answered = ap parts c.in_default.is ∙ r.1 ∙ e.0; stored = e.1 }

pub slice_bounds-words-end : goal.slice_bounds-words-end
slice_bounds-words-end c =
    let r = c.in-Ok in
    let bs : List ℕ = c.args.packed.now in
    let x = read_into bs zeros r.count r.ensures.answered r.ensures.stored in
    omega (arith, c.read-reading.auto.words, read_few bs r.count x)

pub slice_bounds-check-end : goal.slice_bounds-check-end
slice_bounds-check-end c =
    let r = c.in-Ok in
    let bs : List ℕ = c.args.packed.now in
    let x = read_into bs zeros r.count r.ensures.answered r.ensures.stored in
    let h : row_size * r.count ≤ length c.read-reading.new.words = omega (arith, c.read-reading.auto.words, read_few bs r.count x) in
    sym (length-take-le (row_size * r.count) c.read-reading.new.words h)

pub returns : goal.returns
returns c =
    let r = c.in-Ok in
    let bs : List ℕ = c.args.packed.now in
    let old : List ℕ = c.args.clocks.now in
    let k = c.check in
    let x = read_into bs zeros r.count r.ensures.answered r.ensures.stored in
    let e = checked_words bs r.count c.read-reading.new.words (length old) x in
    record { answered = k.ensures.answered ∙ ap (answer length) e; stored = k.ensures.stored ∙ ap (λ z. leaves clocks_words z old) e }

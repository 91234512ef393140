use mathlib.Core.Path.{◌≡◌, refl}
use Prim.Native.Nat.{ℕ, ◌*◌, ◌<◌, ◌≤◌}
use native.Mathlib.Omega.{arith}
use mathlib.Core.List.{List}
use lib.ListN.{length, get_or, replicate, length-replicate}
use mir.Val.{Fits}
use mir.Syntax.{w16}
use Rattle.std.proofs.lemmas.Result.{err_from_is_err_and}
use Rattle.table.specs.declared.Answer.{Answer}
use Rattle.table.specs.Rows.{max_flows}
use Rattle.table.proofs.AnswerLaws.{no_zero}
use Rattle.checker.specs.Answers.{clock_size, check_answer, clocks_after}
use Rattle.checker.proofs.Bounds.{Told}
use Rattle.loads.specs.Loads.{max_time, load, max_load}
use Rattle.loads.specs.Private.Words.{line_in}
use Rattle.loads.proofs.Pages.{bounded_words, handed_on, few, wrong_times_lem, short, done}
use Rattle.loads.proofs.page.Goals as goal

-- the buffer of the clocks
abbrev zeros : List ℕ
zeros = replicate (clock_size * max_flows) 0

-- what the check told
told : (m : ℕ) (words : List ℕ) {clocks : List ℕ} {found : Answer} → found ≡ check_answer m words (length zeros) → clocks ≡ clocks_after m words zeros
    → Told m words zeros clocks found
told m words e l = record { room = omega (arith, length-replicate {A = ℕ} (clock_size * max_flows) 0); answered = e; stored = l }

-- a worst time has 16 bits
times_fit : (times : List ℕ) → ((f : ℕ) → Fits w16 (get_or times f 0)) → (f : ℕ) → get_or times f 0 ≤ max_time
times_fit times h f = omega (arith, h f)

-- so each load is bounded
loaded : (clocks times : List ℕ) (m : ℕ) → ((f : ℕ) → Fits w16 (get_or times f 0)) → (f : ℕ) → f < m → load (line_in clocks times f) ≤ max_load
loaded clocks times m h f l = bounded_words clocks times (times_fit times h) f

pub returns-in_err-check : goal.returns-in_err-check
returns-in_err-check c =
    let a = c.args in
    let b = c.in_err-check.field-0.0 in
    let p = err_from_is_err_and c.from_residual.result c.from_residual.ensures.1 in
    let k = c.in_err-check.ensures in
    let both = handed_on (told a.count a.words.now k.answered k.stored) a.times.now (no_zero b.why) a.page.now in
    record { answered = rw (p.1, p.2) both.0; stored = both.1 }

pub returns-then-times-n : goal.returns-then-times-n
returns-then-times-n c =
    let a = c.args in
    let k = c.in_ok-check.ensures in
    let w = wrong_times_lem (told a.count a.words.now k.answered k.stored) a.times.now refl c.if-times-n.true a.page.now in
    record { answered = rw c.at.ensures w.0; stored = w.1 }

pub returns-then-page-n : goal.returns-then-page-n
returns-then-page-n c =
    let a = c.args in
    let k = c.in_ok-check.ensures in
    let w = short (told a.count a.words.now k.answered k.stored) a.times.now refl c.if-times-n.false a.page.now c.if-page-n.true in
    record { answered = rw c.at-then-page-n.ensures w.0; stored = w.1 }

pub invariant_of-flows : goal.invariant_of-flows
invariant_of-flows c =
    let a = c.args in
    let k = c.in_ok-check.ensures in
    record { few = few (told a.count a.words.now k.answered k.stored) a.times.now refl }

pub overflow_cast-result : goal.overflow_cast-result
overflow_cast-result c =
    let a = c.args in
    let k = c.in_ok-check.ensures in
    let t = told a.count a.words.now k.answered k.stored in
    let d = done t a.times.now refl c.if-times-n.false c.if-page-n.false (loaded c.check.new.clocks a.times.now a.count c.type_inv.times) c.put_page.ensures in
    omega (arith, few t a.times.now refl, d.0)

pub returns : goal.returns
returns c =
    let a = c.args in
    let k = c.in_ok-check.ensures in
    let t = told a.count a.words.now k.answered k.stored in
    let d = done t a.times.now refl c.if-times-n.false c.if-page-n.false (loaded c.check.new.clocks a.times.now a.count c.type_inv.times) c.put_page.ensures in
    record { answered = d.1; stored = d.2 }

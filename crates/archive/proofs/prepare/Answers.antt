use mathlib.Core.Path.{◌≡◌, refl, sym, ◌∙◌}
use Prim.Native.Nat.{ℕ, ◌*◌, ◌≤◌}
use native.Mathlib.Omega.{arith}
use mathlib.Core.List.{List}
use lib.ListN.{length}
use Rattle.std.proofs.Common.{rules}
use Rattle.std.proofs.lemmas.Result.{err_from_is_err_and}
use Rattle.table.specs.Answers.{success}
use Rattle.table.specs.Rows.{max_flows}
use Rattle.checker.specs.Answers.{clock_size, check_answer, clocks_after}
use Rattle.checker.proofs.Bounds.{Told}
use Rattle.archive.proofs.Calls.{plan_refused, plan_rows, plan_long, plan_conditional, plan_sound, plan_open}
use Rattle.archive.proofs.prepare.Goals as goal

told : {m n : ℕ} {words zeros clocks : List ℕ} → clock_size * max_flows ≤ length zeros
    → success n ≡ check_answer m words (length zeros) → clocks ≡ clocks_after m words zeros → Told m words zeros clocks (success n)
told l e k = record { room = l; answered = e; stored = k }

pub returns-in_err-check : goal.returns-in_err-check
returns-in_err-check c =
    let a = c.args in
    let p = err_from_is_err_and c.from_residual.result c.from_residual.ensures.1 in
    rw (p.1, p.2) (plan_refused a.count a.words.now (length a.clocks.now) a.ticks (search rules) c.in_err-check.field-0.0 c.in_err-check.ensures.answered)

pub returns-then-ticks-gt-MAX_TICKS : goal.returns-then-ticks-gt-MAX_TICKS
returns-then-ticks-gt-MAX_TICKS c =
    let check = c.in_ok-check.ensures in
    rw c.at.ensures record { found = plan_long (told (search rules) check.answered check.stored) c.args.ticks c.if-ticks-gt-MAX_TICKS.true; eq = refl }

pub free-requires : goal.free-requires
free-requires c =
    let check = c.in_ok-check.ensures in
    plan_rows (told (search rules) check.answered check.stored) c.args.ticks

pub returns-then-not-free : goal.returns-then-not-free
returns-then-not-free c =
    let check = c.in_ok-check.ensures in
    rw c.at-then-not-free.ensures
    record {
      found =
          plan_conditional (told (search rules) check.answered check.stored) c.args.ticks c.if-ticks-gt-MAX_TICKS.false
          (sym c.free.ensures ∙ c.if-not-free.true);
      eq = refl;
    }

pub invariant_of-result : goal.invariant_of-result
invariant_of-result c =
    let check = c.in_ok-check.ensures in
    record {
      sound = plan_sound (told (search rules) check.answered check.stored) c.args.ticks (search rules);
      short = omega (arith, c.if-ticks-gt-MAX_TICKS.false);
    }

pub returns : goal.returns
returns c =
    let check = c.in_ok-check.ensures in
    record {
      flows = refl;
      ticks_are = refl;
      eq =
          plan_open (told (search rules) check.answered check.stored) c.args.ticks c.if-ticks-gt-MAX_TICKS.false
          (sym c.free.ensures ∙ c.if-not-free.false);
    }

use mathlib.Core.Path.{◌∙◌, ap}
use Prim.Native.Nat.{ℕ, ◌+◌}
use native.Mathlib.Omega.{arith}
use mathlib.Core.Bool.{Bool, cond}
use lib.ListN.{get_or}
use lib.Dec.{eqb}
use Rattle.calendar.specs.Calendar.{cell_at}
use Rattle.archive.specs.Columns.{cell_fits}
use Rattle.archive.proofs.Held.{moved_next}
use Rattle.archive.proofs.Judging.{one_of_lem, moved_is, told_next}
use Rattle.archive.proofs.judge.tick_fits.Goals as goal

pub loop-f-preserved : goal.loop-f-preserved
loop-f-preserved c =
    let k = c.loop-f in
    let a = c.args in
    let m = a.plan.now.flows in
    let x = get_or k.next k.f 0 in
    let same = k.invariant.moved.coming k.f (omega arith) c.loop-f-test.true in
    let told =
    c.misfit-wrong.ensures.result_value
    ∙ ap (λ (i : ℕ). cell_fits (eqb c.same-due.result 1) (get_or a.marks.now (i + k.f) 0) (get_or a.values.now (i + k.f) 0)) c.requires.1
    ∙ ap (λ (d : Bool). cell_fits d (cell_at m a.marks.now a.t k.f) (cell_at m a.values.now a.t k.f))
    (ap (λ (i : ℕ). eqb i 1) c.same-due.ensures.value ∙ one_of_lem (eqb x a.t) ∙ ap (λ (i : ℕ). eqb i a.t) same) in
    record {
      small = omega arith;
      told = told_next m a.t a.marks.now a.values.now a.next.now k.f k.wrong c.misfit-wrong.result told k.invariant.told;
      moved =
          moved_next (omega arith)
          (moved_is x a.t (get_or a.periods.now k.f 0) c.same-due.result c.same-due.ensures.value
          ∙ ap (λ (i : ℕ). cond (eqb i a.t) (a.t + get_or a.periods.now k.f 0) i) same) k.invariant.moved;
    }

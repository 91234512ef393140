-- What the sets say of runs, over what a caller sees. Assumes nothing.
use mathlib.Core.Path.{◌≡◌, sym, ◌∙◌, ap}
use Prim.Native.Nat.{ℕ, suc, ◌+◌, ◌*◌, ◌-◌, ◌≤◌, ◌<◌}
use native.Mathlib.Nat.{mul-le-mul_right}
use native.Mathlib.Omega.{arith}
use mathlib.Core.List.{List}
use lib.ListN.{length, get_or}
use Rattle.table.specs.Answers.{good}
use Rattle.checker.specs.Clocks.{Clock}
use Rattle.semantics.specs.Cells.{absent, value, back}
use Rattle.semantics.specs.Runs.{Ticks, history, done, run, cells, Regular}
use Rattle.semantics.specs.Answers.{running, mark_byte}
use Rattle.semantics.proofs.Traces.{cells_length, cells_at}
use Rattle.calendar.proofs.Shown.{written}
use Rattle.calendar.proofs.Unclashed.{unclashed}
use Rattle.calendar.proofs.SharedCalendar.{asked_runs}
use Rattle.influence.specs.Influence.{Agreeing, Run, mark_at, value_at, Influence}
use Rattle.influence.proofs.Plans.{Plan}
use Rattle.influence.proofs.FeltSets.{given, exact, by_rows}
use Rattle.influence.proofs.Histories.{agreed, same_back}

-- what a run left of tick u
module _ (m : ℕ) (words : List ℕ) (ks : List Clock) (p : Plan m words ks) (t : ℕ) (r : Run m words t) where
  whole : (late : Ticks) × (run p.rows r.log r.ticks ≡ done late) × (length late ≡ r.ticks) × Regular m late
  whole = unclashed m words p.rows ks p.is_table p.found r.log r.ticks

  ran : running m words r.log r.ticks (length r.marks) (length r.values) ≡ good (done whole.0)
  ran = asked_runs m words p.rows r.log r.ticks r.marks r.values p.is_table r.few r.asked ∙ ap good whole.1

  module _ (u : ℕ) (y : u ≤ t) (f : ℕ) (l : f < m) where
    cell : get_or (cells whole.0) (u * m + f) absent ≡ back (history whole.0 f) (r.ticks - suc u)
    cell = cells_at m f l whole.0 whole.3 u (r.ticks - suc u) (omega (arith, whole.2, r.longer))

    inside : u * m + f < length (cells whole.0)
    inside =
        let z : suc u ≤ r.ticks = omega (arith, r.longer) in
        omega (arith, mul-le-mul_right m z, cells_length m whole.0 whole.3 ∙ ap (λ (i : ℕ). i * m) whole.2)

    mark_is : mark_at r u f ≡ mark_byte (back (history whole.0 f) (r.ticks - suc u))
    mark_is = rw ran (written mark_byte (cells whole.0) _ (u * m + f) inside ∙ ap mark_byte cell)

    value_is : value_at r u f ≡ value (back (history whole.0 f) (r.ticks - suc u))
    value_is = rw ran (written value (cells whole.0) _ (u * m + f) inside ∙ ap value cell)

same : (m : ℕ) (words clocks sets : List ℕ) (t : ℕ) (r r' : Run m words t) (f : ℕ) → Agreeing m words clocks sets t r.log r'.log f
    → (u : ℕ) → u ≤ t → (mark_at r u f ≡ mark_at r' u f) × (value_at r u f ≡ value_at r' u f)
same m words clocks sets t r r' f a u y =
    let h = agreed m words clocks sets t r.log r'.log f a in
    let p = h.plan in
    let w = whole m words h.ks p t r in
    let w' = whole m words h.ks p t r' in
    let e = same_back m words t r.log r'.log f h r.ticks r'.ticks w.0 w'.0 r.longer r'.longer w.1 w'.1 u y in (
      mark_is m words h.ks p t r u y f a.flow ∙ ap mark_byte e ∙ sym (mark_is m words h.ks p t r' u y f a.flow),
      value_is m words h.ks p t r u y f a.flow ∙ ap value e ∙ sym (value_is m words h.ks p t r' u y f a.flow),
    )

-- ALL OF IT
pub influence : Influence
influence = record { given = given; exact = λ m words sets e ks c f i l. exact m words sets e ks c f l i; by_rows = by_rows; same = same }

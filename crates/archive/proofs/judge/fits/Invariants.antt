use mathlib.Core.Path.{◌≡◌}
use Prim.Native.Nat.{ℕ, ◌*◌, ◌<◌}
use mathlib.Core.Bool.{true}
use Rattle.archive.specs.Private.Steps.{fits_at}
use Rattle.archive.specs.Private.Plans.{TicksIn}
use Rattle.archive.proofs.judge.fits.Given as goal

abbrev pub invariant-loop-t : goal.invariant-loop-t
invariant-loop-t l = record {
  first : l.first ≡ l.t * l.plan.flows;
  carried : TicksIn l.plan l.t l.next;
  fit : (s : ℕ) → s < l.t → (f : ℕ) → f < l.plan.flows → fits_at l.plan.flows l.plan.clocks.now l.marks l.values s f ≡ true;
}

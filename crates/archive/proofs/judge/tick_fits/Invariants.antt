use Prim.Native.Nat.{ℕ, ◌*◌, ◌≤◌}
use lib.ListN.{get_or}
use lib.Dec.{eqb}
use Rattle.archive.specs.Private.Steps.{moved_on, AllTold}
use Rattle.archive.proofs.Held.{Moved}
use Rattle.archive.proofs.judge.tick_fits.Given as goal

abbrev pub invariant-loop-f : goal.invariant-loop-f
invariant-loop-f l = record {
  small : l.wrong ≤ 2 * l.f;
  told : AllTold l.plan.flows l.t l.marks l.values l.initial.next l.f (eqb l.wrong 0);
  moved : Moved 0 l.plan.flows (λ (g : ℕ). get_or l.initial.next g 0) (moved_on l.t l.periods l.initial.next) l.f l.next;
}

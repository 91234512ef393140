use Prim.Native.Nat.{ℕ}
use Rattle.archive.specs.Private.Steps.{period_in, next_in, Carried}
use Rattle.archive.proofs.plan.Plan.gather.Given as goal

abbrev pub invariant-loop-f : goal.invariant-loop-f
invariant-loop-f l = record {
  periods : Carried 0 l.f (λ (t f : ℕ). period_in l.self.clocks.now f) 0 l.periods;
  ticks : Carried 0 l.f (next_in l.self.clocks.now) 0 l.ticks;
}

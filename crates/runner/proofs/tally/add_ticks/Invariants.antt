use Rattle.runner.specs.Private.Placed.{Recalls, Low}
use Rattle.semantics.specs.Runs.{Ticks}
use Rattle.semantics.specs.Windows.{Tallied}
use Rattle.std.proofs.Common.{◌≡◌, ℕ, ◌+◌, ◌-◌, ◌≤◌, List, length, drop}
use Rattle.runner.proofs.tally.add_ticks.Given as goal

abbrev pub invariant-loop-t : goal.invariant-loop-t
invariant-loop-t l = Low l.plan.n (l.t + 1) l.tallies
    × ((past : Ticks) (ts : List ℕ) → length past ≡ l.to → l.to ≤ l.from + (l.plan.mask + 1) → Recalls (l.plan.mask + 1) l.plan.n l.to past l.marks l.values
    → Tallied l.plan.n (drop (l.to - l.from) past) ts l.initial.tallies → Tallied l.plan.n (drop (l.to - l.t) past) ts l.tallies)

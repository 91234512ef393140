use mathlib.Core.Path.{◌≡◌}
use Prim.Native.Nat.{ℕ, ◌<◌, ◌≤◌}
use lib.ListN.{get_or}
use Rattle.reach.specs.Private.Steps.{absorbed}
use Rattle.reach.proofs.sweep.Given as goal

abbrev pub invariant-loop-set : goal.invariant-loop-set
invariant-loop-set l =
    ((f : ℕ) → f < l.set-index → get_or l.sets f 0 ≡ absorbed (get_or l.initial.sets f 0) l.through l.k)
    × ((f : ℕ) → l.set-index ≤ f → get_or l.sets f 0 ≡ get_or l.initial.sets f 0)

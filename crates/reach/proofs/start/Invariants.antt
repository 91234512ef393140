use mathlib.Core.Path.{◌≡◌}
use Prim.Native.Nat.{ℕ, ◌<◌}
use lib.ListN.{length, get_or}
use Rattle.reach.specs.Sets.{set_of}
use Rattle.reach.specs.Reach.{named, through}
use Rattle.reach.proofs.start.Given as goal

abbrev pub invariant-loop-f : goal.invariant-loop-f
invariant-loop-f l = (length l.sets ≡ l.n) × ((g : ℕ) → g < l.f → get_or l.sets g 0 ≡ set_of (through (named l.words) 0 g) l.n)

use mathlib.Core.Path.{◌≡◌}
use Prim.Native.Nat.{◌*◌, ◌≤◌}
use Rattle.loads.specs.Loads.{max_load, lines_from, total}
use Rattle.loads.specs.Private.Words.{line_at}
use Rattle.loads.proofs.Flows.sum.Given as goal

abbrev pub invariant-loop-f : goal.invariant-loop-f
invariant-loop-f l = (l.sum ≡ total (lines_from (line_at l.self) l.f 0)) × (l.sum ≤ max_load * l.f)

use mathlib.Core.Path.{◌≡◌}
use mathlib.Core.List.{map}
use lib.ListN.{take}
use Rattle.loads.specs.Loads.{lines_from, key}
use Rattle.loads.specs.Private.Words.{line_at}
use Rattle.loads.proofs.Flows.sort_keys.Given as goal

abbrev pub invariant-loop-f : goal.invariant-loop-f
invariant-loop-f l = take l.f l.keys ≡ map key (lines_from (line_at l.self) l.f 0)

use mathlib.Core.Path.{◌≡◌}
use Prim.Native.Nat.{◌*◌}
use lib.ListN.{length, take}
use Rattle.std.specs.Prelude.{flat_map}
use Rattle.table.specs.Answers.{over}
use Rattle.checker.specs.Answers.{clock_size}
use Rattle.checker.specs.Private.Kept.{given}
use Rattle.checker.proofs.give_all.Given as goal

abbrev pub invariant-loop-f : goal.invariant-loop-f
invariant-loop-f l = record {
  size : length (flat_map given (take l.f l.kept)) ≡ clock_size * l.f;
  held : l.clocks ≡ over (flat_map given (take l.f l.kept)) l.initial.clocks;
}

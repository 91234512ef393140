use Prim.Native.Nat.{ℕ, ◌-◌}
use Rattle.archive.specs.Private.Steps.{Taken}
use Rattle.archive.proofs.Storing.{Stepping}
use Rattle.archive.proofs.blocks.take_column.Given as goal

abbrev pub invariant-loop-tick : goal.invariant-loop-tick
invariant-loop-tick l = record {
  number : ℕ;
  step : Stepping l.n l.initial.tick l.finish l.initial.place l.tick l.place number;
  taken : Taken l.m l.n l.initial.tick l.f l.initial.place number l.values l.initial.stored l.stored;
}

abbrev pub decreases-loop-tick : goal.decreases-loop-tick
decreases-loop-tick l = l.finish - l.tick

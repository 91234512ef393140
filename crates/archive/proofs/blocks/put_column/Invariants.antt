use Prim.Native.Nat.{ℕ, ◌+◌, ◌-◌}
use lib.ListN.{get_or}
use Rattle.archive.specs.Private.Steps.{Put}
use Rattle.archive.proofs.Storing.{Stepping}
use Rattle.archive.proofs.blocks.put_column.Given as goal

abbrev pub invariant-loop-tick : goal.invariant-loop-tick
invariant-loop-tick l = record {
  number : ℕ;
  step : Stepping l.n l.initial.tick l.finish l.initial.place l.tick l.place number;
  marks : Put l.m l.n l.initial.tick l.f number (λ (j : ℕ). 1) l.initial.marks l.marks;
  values : Put l.m l.n l.initial.tick l.f number (λ (j : ℕ). get_or l.stored (l.initial.place + j) 0) l.initial.values l.values;
}

abbrev pub decreases-loop-tick : goal.decreases-loop-tick
decreases-loop-tick l = l.finish - l.tick

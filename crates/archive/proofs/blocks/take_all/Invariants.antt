use Prim.Native.Nat.{◌-◌, ◌≤◌}
use Rattle.archive.specs.Private.Plans.{CarriedBy, StoredTo}
use Rattle.archive.proofs.blocks.take_all.Given as goal

abbrev pub invariant-loop-begin : goal.invariant-loop-begin
invariant-loop-begin l = record {
  within : l.begin ≤ l.plan.ticks;
  carried : CarriedBy l.plan l.begin l.next;
  words : StoredTo l.plan l.values l.begin l.stored;
}

abbrev pub decreases-loop-begin : goal.decreases-loop-begin
decreases-loop-begin l = l.plan.ticks - l.begin

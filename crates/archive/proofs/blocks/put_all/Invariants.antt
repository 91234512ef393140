use Prim.Native.Nat.{◌-◌}
use Rattle.archive.specs.Private.Plans.{CarriedBy, MarksTo, ValuesTo}
use Rattle.archive.proofs.blocks.put_all.Given as goal

abbrev pub invariant-loop-begin : goal.invariant-loop-begin
invariant-loop-begin l = record {
  carried : CarriedBy l.plan l.begin l.next;
  marks : MarksTo l.plan l.begin l.marks;
  values : ValuesTo l.plan l.stored l.begin l.values;
}

abbrev pub decreases-loop-begin : goal.decreases-loop-begin
decreases-loop-begin l = l.plan.ticks - l.begin

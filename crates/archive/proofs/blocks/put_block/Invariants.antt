use mathlib.Core.Path.{◌≡◌}
use lib.ListN.{length}
use Rattle.table.specs.Rows.{max_flows}
use Rattle.archive.specs.Traces.{restored_mark, restored_value}
use Rattle.archive.specs.Private.Steps.{none, Filled}
use Rattle.archive.specs.Private.Plans.{next_of, clocks_of}
use Rattle.archive.proofs.Held.{Moved}
use Rattle.archive.proofs.blocks.put_block.Given as goal

abbrev pub invariant-loop-f : goal.invariant-loop-f
invariant-loop-f l = record {
  room : length l.next ≡ max_flows;
  moved : Moved none l.plan.flows (next_of l.plan l.begin) (next_of l.plan l.finish) l.f l.next;
  marks : Filled l.plan.flows l.begin l.finish l.f (restored_mark (clocks_of l.plan)) l.marks;
  values : Filled l.plan.flows l.begin l.finish l.f (restored_value (clocks_of l.plan) l.plan.ticks l.stored) l.values;
}

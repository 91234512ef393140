use mathlib.Core.Path.{◌≡◌}
use lib.ListN.{length}
use Rattle.table.specs.Rows.{max_flows}
use Rattle.archive.specs.Private.Steps.{none}
use Rattle.archive.specs.Private.Plans.{next_of}
use Rattle.archive.proofs.Held.{Moved}
use Rattle.archive.proofs.Storing.{Worded}
use Rattle.archive.proofs.blocks.take_block.Given as goal

abbrev pub invariant-loop-f : goal.invariant-loop-f
invariant-loop-f l = record {
  room : length l.next ≡ max_flows;
  moved : Moved none l.plan.flows (next_of l.plan l.begin) (next_of l.plan l.finish) l.f l.next;
  words : Worded l.plan.flows l.plan.clocks.now l.values l.plan.ticks l.begin l.finish l.f l.stored;
}

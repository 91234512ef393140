use lib.ListN.{length}
use Rattle.table.specs.Rows.{max_flows}
use mathlib.Core.Path.{◌≡◌}
use Rattle.archive.specs.Traces.{words_before}
use Rattle.archive.specs.Private.Steps.{none, Carried}
use Rattle.archive.specs.Private.Plans.{next_of, clocks_of}
use Rattle.archive.proofs.plan.Plan.place_words.Given as goal

abbrev pub invariant-loop-f : goal.invariant-loop-f
invariant-loop-f l = record {
  room : length l.next ≡ max_flows;
  counted : l.w ≡ words_before (clocks_of l.self) l.self.ticks l.f;
  carried : Carried none l.f (next_of l.self) 0 l.next;
}

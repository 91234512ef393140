use mathlib.Core.Path.{◌≡◌}
use lib.ListN.{length}
use Rattle.table.specs.Rows.{max_flows}
use Rattle.rates.specs.Private.Spread.{Starting}
use Rattle.rates.proofs.Draft.start.Given as goal

abbrev pub invariant-loop-f : goal.invariant-loop-f
invariant-loop-f l = (length l.rates ≡ max_flows) × Starting l.self.count l.self.words.now l.f l.rates

use mathlib.Core.Path.{◌≡◌}
use Rattle.table.specs.Answers.{over}
use Rattle.table.specs.Plain.{joined}
use Rattle.rates.specs.Fillings.{filled}
use Rattle.rates.specs.Private.Spread.{rates_in}
use Rattle.rates.proofs.Draft.store.Given as goal

abbrev pub invariant-loop-f : goal.invariant-loop-f
invariant-loop-f l = l.rows ≡ over (joined (filled l.f l.self.words.now (rates_in l.rates))) l.initial.rows

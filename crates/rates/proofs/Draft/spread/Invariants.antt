use Rattle.rates.specs.Private.Spread.{Starting, unknown}
use Rattle.rates.proofs.Draft.spread.Given as goal

abbrev pub invariant-loop : goal.invariant-loop
invariant-loop l = Starting l.self.count l.self.words.now l.self.count l.rates

abbrev pub decreases-loop : goal.decreases-loop
decreases-loop l = unknown l.rates

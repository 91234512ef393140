use Prim.Native.Nat.{ℕ, ◌<◌}
use Rattle.rates.specs.Private.Spread.{ClosedAt, Passed}
use Rattle.rates.proofs.Draft.pass.Given as goal

abbrev pub invariant-loop-f : goal.invariant-loop-f
invariant-loop-f l = Passed l.self.count l.self.words.now ((g : ℕ) → g < l.f → ClosedAt l.self.words.now l.initial.rates g) l.initial.rates l.rates l.news

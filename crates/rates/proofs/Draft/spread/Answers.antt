use Rattle.rates.proofs.Passing.{settled}
use Rattle.rates.proofs.Draft.spread.Goals as goal

pub returns : goal.returns
returns c = settled _ _ _ _ c.loop.invariant (c.pass.ensures.still c.loop-test.false)

use Rattle.rates.specs.Private.Spread.{still, risen, fallen}
use Rattle.rates.proofs.join.Goals as goal

pub returns-then-not-on : goal.returns-then-not-on
returns-then-not-on c = still (λ o. absurd (cc))

pub returns-in-None-Some : goal.returns-in-None-Some
returns-in-None-Some c = rw c.rise.ensures (risen c.if-not-on.false c.in-None-Some.is-0 c.in-None-Some.is-1)

pub returns-in-Some-None : goal.returns-in-Some-None
returns-in-Some-None c = rw c.fall.ensures (fallen c.if-not-on.false c.in-Some-None.is-1 c.in-Some-None.is-0)

pub returns-in_default : goal.returns-in_default
returns-in_default c = still (λ o. (λ k. absurd (cc k.1), λ k. absurd (cc k.1)))

pub returns-in_default-2 : goal.returns-in_default-2
returns-in_default-2 c =
    let both = c.in_default in still (λ o. (λ k. (both.field-0-1, both.is-1), λ k. (both.field-0-0, both.is-0)))

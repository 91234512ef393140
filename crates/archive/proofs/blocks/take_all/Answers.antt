use mathlib.Core.Path.{◌∙◌, subst}
use Prim.Native.Nat.{ℕ}
use native.Mathlib.Omega.{arith}
use Rattle.archive.specs.Private.Plans.{StoredTo}
use Rattle.archive.proofs.Storing.{words_begin, stored_is}
use Rattle.archive.proofs.blocks.take_all.Goals as goal

pub loop-begin-init : goal.loop-begin-init
loop-begin-init c =
    let a = c.args in
    let p = a.plan.now in
    record { within = omega arith; carried = c.requires.2; words = words_begin p.flows p.clocks.now a.values.now p.ticks a.stored.now }

pub returns : goal.returns
returns c =
    let a = c.args in
    let p = a.plan.now in
    let k = c.loop-begin in
    stored_is p.flows p.clocks.now a.values.now p.ticks k.stored p.sound.positive (k.auto.stored ∙ c.requires.1)
    (subst (λ (t : ℕ). StoredTo p a.values.now t k.stored) (omega (arith, k.invariant.within, c.loop-begin-test.false)) k.invariant.words)

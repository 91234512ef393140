use mathlib.Core.Path.{◌≡◌, ◌∙◌, ap, subst}
use Prim.Native.Nat.{ℕ}
use native.Mathlib.Omega.{arith}
use lib.ListN.{length-set}
use Rattle.rates.specs.Private.Spread.{begun, Starting}
use Rattle.rates.proofs.Passing.{starting_next}
use Rattle.rates.proofs.Draft.start.Goals as goal

pub loop-f-init : goal.loop-f-init
loop-f-init c = (omega arith, c.requires)

pub loop-f-preserved : goal.loop-f-preserved
loop-f-preserved c =
    let a = c.args in
    let l = c.loop-f in (
      length-set l.rates l.f c.begin.result ∙ l.invariant.0,
      starting_next a.self.count a.self.words.now l.rates l.f c.begin.result c.loop-f-test.true (omega arith) (c.begin.ensures ∙ ap begun c.record_at.ensures) l.invariant.1,
    )

pub returns : goal.returns
returns c =
    let a = c.args in
    let l = c.loop-f in
    let e : l.f ≡ a.self.count = omega arith in subst (λ (i : ℕ). Starting a.self.count a.self.words.now i l.rates) e l.invariant.1

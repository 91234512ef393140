use native.Mathlib.Omega.{arith}
use Rattle.rates.proofs.Passing.{passed_none, passing_next, all_passed}
use Rattle.rates.proofs.Draft.pass.Goals as goal

pub loop-f-init : goal.loop-f-init
loop-f-init c = passed_none _ _ _ _ (λ g l. absurd (omega arith))

pub loop-f-preserved : goal.loop-f-preserved
loop-f-preserved c =
    let a = c.args in
    let l = c.loop-f in
    let k = c.link-news in
    passing_next a.self.count a.self.words.now a.rates.now l.rates k.new.rates l.f l.news k.result l.invariant k.ensures

pub returns : goal.returns
returns c =
    let l = c.loop-f in all_passed _ _ _ _ l.f _ (omega arith) l.invariant

use mathlib.Core.Path.{◌≡◌, ◌∙◌, ap}
use native.Mathlib.Omega.{arith}
use Rattle.std.proofs.lemmas.Grind.{common_steps}
use Rattle.reach.specs.Sets.{set_of}
use Rattle.reach.specs.Reach.{named, through}
use Rattle.reach.specs.Private.Steps.{named_set}
use Rattle.reach.proofs.Sweeping.{reached_first}
use Rattle.reach.proofs.start.Goals as goal

pub loop-f-preserved : goal.loop-f-preserved
loop-f-preserved c =
    let a = c.args in
    let l = c.loop-f in
    let e : c.named.result ≡ set_of (through (named a.words.now) 0 l.f) a.n =
    c.named.ensures ∙ ap (named_set l.f) c.record_at.ensures ∙ reached_first a.words.now a.n l.f c.requires.table c.loop-f-test.true in
    grind (arith, common_steps, e)

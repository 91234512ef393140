use mathlib.Core.Path.{refl}
use native.Mathlib.Omega.{arith}
use Rattle.table.specs.Plain.{per_flow}
use Rattle.influence.proofs.Masking.{masking_more, masked_all}
use Rattle.influence.proofs.keep.Goals as goal

pub loop-set-init : goal.loop-set-init
unfolding per_flow
loop-set-init c = refl

pub loop-set-preserved : goal.loop-set-preserved
loop-set-preserved c =
    let l = c.loop-set in
    masking_more c.args.kept c.args.sets.now l.set-index l.sets c.loop-set-test.true l.invariant

pub returns : goal.returns
returns c =
    let l = c.loop-set in
    masked_all c.args.kept c.args.sets.now l.set-index l.sets (omega (arith, l.end-fits, c.loop-set-test.false)) l.invariant

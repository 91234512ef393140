use native.Mathlib.Omega.{arith}
use Rattle.table.specs.Plain.{words_of}
use Rattle.influence.proofs.Masking.{inputs_none, inputs_more}
use Rattle.influence.proofs.inputs.Goals as goal

pub loop-i-init : goal.loop-i-init
loop-i-init c = inputs_none _

pub loop-i-preserved : goal.loop-i-preserved
loop-i-preserved c =
    let row = c.record_at-row in
    let l = c.loop-i in
    inputs_more c.args.words.now l.i (words_of row.result) (omega (arith, c.requires)) l.invariant row.ensures c.with_flow-set.ensures

use mathlib.Core.Path.{◌∙◌}
use Rattle.archive.specs.Traces.{restored_mark, restored_value}
use Rattle.archive.specs.Private.Plans.{clocks_of}
use Rattle.archive.proofs.Restoring.{fill_all}
use Rattle.archive.proofs.blocks.put_all.Goals as goal

pub returns-clause-marks_after : goal.returns-clause-marks_after
returns-clause-marks_after c =
    let p = c.args.plan.now in
    let k = c.loop-begin in
    fill_all p.flows (restored_mark (clocks_of p)) p.ticks k.begin k.marks c.loop-begin-test.false (k.auto.marks ∙ c.requires.0) k.invariant.marks

pub returns-clause-values_after : goal.returns-clause-values_after
returns-clause-values_after c =
    let p = c.args.plan.now in
    let k = c.loop-begin in
    fill_all p.flows (restored_value (clocks_of p) p.ticks c.args.stored.now) p.ticks k.begin k.values c.loop-begin-test.false
    (k.auto.values ∙ c.requires.1) k.invariant.values

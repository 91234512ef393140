use mathlib.Core.Path.{sym, ◌∙◌}
use Rattle.archive.specs.Private.Plans.{clocks_of}
use Rattle.archive.proofs.Calls.{restore_wrong, restore_done}
use Rattle.archive.proofs.RoundTrip.{lengths}
use Rattle.archive.proofs.restore_by.Goals as goal

pub returns-then-not-lengths_fit : goal.returns-then-not-lengths_fit
returns-then-not-lengths_fit c =
    let a = c.args in
    let p = a.plan.now in
    rw c.at.ensures
    (restore_wrong p.flows p.ticks (clocks_of p) a.stored.now a.marks.now a.values.now (sym c.lengths_fit.ensures ∙ c.if-not-lengths_fit.true))

pub returns : goal.returns
returns c =
    let a = c.args in
    let p = a.plan.now in
    rw c.cells.ensures.value
    (restore_done p.flows p.ticks (clocks_of p) a.stored.now a.marks.now a.values.now (lengths (sym c.lengths_fit.ensures ∙ c.if-not-lengths_fit.false))
    c.put_all.new.marks c.put_all.new.values c.put_all.ensures.marks_after c.put_all.ensures.values_after)

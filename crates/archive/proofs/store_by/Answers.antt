use mathlib.Core.Path.{sym, ◌∙◌, ap}
use Rattle.table.specs.Answers.{success}
use Rattle.archive.specs.Private.Plans.{clocks_of}
use Rattle.archive.proofs.Calls.{store_wrong, store_off, store_done}
use Rattle.archive.proofs.RoundTrip.{lengths}
use Rattle.archive.proofs.store_by.Goals as goal

pub returns-then-not-lengths_fit : goal.returns-then-not-lengths_fit
returns-then-not-lengths_fit c =
    let a = c.args in
    let p = a.plan.now in
    let x =
    store_wrong p.flows p.ticks (clocks_of p) a.marks.now a.values.now a.stored.now (sym c.lengths_fit.ensures ∙ c.if-not-lengths_fit.true) in
    record { value = rw c.at.ensures x.0; stored_after = x.1 }

pub returns-then-not-fits : goal.returns-then-not-fits
returns-then-not-fits c =
    let a = c.args in
    let p = a.plan.now in
    let x =
    store_off p.flows p.ticks (clocks_of p) a.marks.now a.values.now a.stored.now (lengths (sym c.lengths_fit.ensures ∙ c.if-not-lengths_fit.false))
    (sym c.fits.ensures ∙ c.if-not-fits.true) in
    record { value = rw c.at-then-not-fits.ensures x.0; stored_after = x.1 }

pub returns : goal.returns
returns c =
    let a = c.args in
    let p = a.plan.now in
    let x =
    store_done p.flows p.ticks (clocks_of p) a.marks.now a.values.now a.stored.now (lengths (sym c.lengths_fit.ensures ∙ c.if-not-lengths_fit.false))
    (sym c.fits.ensures ∙ c.if-not-fits.false) c.take_all.new.stored c.take_all.ensures in
    record { value = ap success c.place_words-size.ensures.value ∙ x.0; stored_after = x.1 }

use mathlib.Core.Path.{ap, subst}
use Prim.Native.Nat.{ℕ, ◌*◌}
use native.Mathlib.Nat.{suc-mul}
use native.Mathlib.Numerals.{add-one}
use native.Mathlib.Omega.{arith}
use mathlib.Core.Bool.{true}
use Rattle.archive.specs.Private.Steps.{TickFits}
use Rattle.archive.proofs.Judging.{tick_fit, tick_misfit, tick_moved, ticks_more, trace_fit, trace_misfit}
use Rattle.archive.proofs.judge.fits.Goals as goal

pub returns-then-not-tick_fits : goal.returns-then-not-tick_fits
returns-then-not-tick_fits c =
    let a = c.args in
    let p = a.plan.now in
    let k = c.loop-t in
    let x =
    tick_misfit p.flows p.clocks.now a.marks.now a.values.now p.sound k.t k.next k.invariant.carried _ _
    (subst (TickFits p.flows k.t _ a.marks.now a.values.now k.next _) c.if-not-tick_fits.true c.tick_fits.ensures) in
    trace_misfit p.flows p.clocks.now a.marks.now a.values.now p.ticks k.t x.0 c.loop-t-test.true x.1 x.2

pub loop-t-preserved : goal.loop-t-preserved
loop-t-preserved c =
    let a = c.args in
    let p = a.plan.now in
    let k = c.loop-t in
    let x = subst (TickFits p.flows k.t _ a.marks.now a.values.now k.next _) c.if-not-tick_fits.false c.tick_fits.ensures in
    record {
      first = omega (arith, suc-mul k.t p.flows, ap (λ (i : ℕ). i * p.flows) (add-one k.t));
      carried = tick_moved p.flows p.clocks.now a.marks.now a.values.now p.sound k.t k.next k.invariant.carried _ _ true x c.gather.ensures.periods;
      fit =
          ticks_more p.flows p.clocks.now a.marks.now a.values.now k.t k.invariant.fit
          (tick_fit p.flows p.clocks.now a.marks.now a.values.now p.sound k.t k.next k.invariant.carried _ _ x);
    }

pub returns : goal.returns
returns c =
    let a = c.args in
    let p = a.plan.now in
    trace_fit p.flows p.clocks.now a.marks.now a.values.now p.ticks (λ t l. c.loop-t.invariant.fit t (omega (arith, c.loop-t-test.false)))

use Rattle.runner.proofs.Running.{recall, close, goes_on, stops, ends}
use Rattle.runner.proofs.Placing.{fewer}
use Rattle.runner.proofs.Plans as plans
use Rattle.runner.specs.Private.Placed.{Fitting}
use Rattle.std.proofs.Common.{◌≡◌, ℕ, ◌+◌, ◌<◌, List, length, sym, subst, arith}
use Rattle.runner.proofs.run_ticks.Goals as goal

-- the next tick has its place in marks and values
fits : (mask n t to : ℕ) (now old : List ℕ) → length now ≡ length old → t < to → Fitting (mask + 1) n to (length old) → Fitting (mask + 1) n (t + 1) (length now)
fits mask n t to now old e h f = subst (Fitting (mask + 1) n (t + 1)) (sym e) (fewer (t + 1) (omega arith) f)

pub turn-requires : goal.turn-requires
turn-requires c =
    let a = c.args in
    let p = a.plan in
    let l = c.loop-t in
    let h = c.loop-t-test.true in (
      fits p.mask p.n l.t a.to l.marks a.marks.now l.auto.marks h c.requires.0,
      fits p.mask p.n l.t a.to l.values a.values.now l.auto.values h c.requires.1,
      omega (arith, h),
      c.requires.5,
    )

pub returns-in-Err : goal.returns-in-Err
returns-in-Err c =
    let a = c.args in
    let p = a.plan in
    let l = c.loop-t in
    let h = c.loop-t-test.true in
    let fm = fits p.mask p.n l.t a.to l.marks a.marks.now l.auto.marks h c.requires.0 in
    let fv = fits p.mask p.n l.t a.to l.values a.values.now l.auto.values h c.requires.1 in
    λ ms vs R₀.
    let R = l.invariant ms vs R₀ in
    let seen = recall R (fewer l.t (omega arith) fm) (fewer l.t (omega arith) fv) in
    let near = close R (omega (arith, h)) c.requires.4 in
    stops R _ _ _ _ (plans.table p).size (c.turn.ensures R.past R.ticks seen near R.carried) a.to _ c.in-Err.is h

pub loop-t-preserved : goal.loop-t-preserved
loop-t-preserved c =
    let a = c.args in
    let p = a.plan in
    let l = c.loop-t in
    let h = c.loop-t-test.true in
    let fm = fits p.mask p.n l.t a.to l.marks a.marks.now l.auto.marks h c.requires.0 in
    let fv = fits p.mask p.n l.t a.to l.values a.values.now l.auto.values h c.requires.1 in
    λ ms vs R₀.
    let R = l.invariant ms vs R₀ in
    let seen = recall R (fewer l.t (omega arith) fm) (fewer l.t (omega arith) fv) in
    let near = close R (omega (arith, h)) c.requires.4 in
    goes_on R _ _ _ _ (plans.table p).size (c.turn.ensures R.past R.ticks seen near R.carried) c.in_default.is c.turn.auto.marks c.turn.auto.values

pub returns : goal.returns
returns c =
    let l = c.loop-t in
    λ ms vs R₀. ends (l.invariant ms vs R₀) c.args.to c.loop-t-test.false (omega arith)

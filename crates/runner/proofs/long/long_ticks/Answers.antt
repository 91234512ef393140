use Rattle.runner.proofs.Underway.{begun, stretched, all_ticks}
use Rattle.runner.proofs.Placing.{window_fits}
use Rattle.runner.proofs.Tallying.{tallied_low}
use Rattle.runner.specs.Long.{window_ticks}
use Rattle.table.specs.Rows.{Row}
use Rattle.runner.specs.declared.carried.Held.{Held}
use Rattle.runner.specs.Private.Placed.{Running}
use Rattle.runner.specs.Private.Plans.{plan_rows}
use Rattle.std.proofs.Common.{◌≡◌, ℕ, ◌+◌, List, length, arith}
use Rattle.runner.proofs.long.long_ticks.Goals as goal

-- a run by its mask
running : (mask : ℕ) {n t : ℕ} {rows : List Row} {log ms₀ vs₀ : List ℕ} {s : List Held} {ms vs : List ℕ} → mask + 1 ≡ window_ticks
    → Running n window_ticks t rows log ms₀ vs₀ s ms vs → Running n (mask + 1) t rows log ms₀ vs₀ s ms vs
running mask e R = rw e R

pub loop-t-init : goal.loop-t-init
loop-t-init c = let pre = c.requires in (omega arith, begun _ _ _ _ _ _ _ pre.4 pre.6)

pub run_ticks-requires : goal.run_ticks-requires
run_ticks-requires c =
    let p = c.args.plan in
    let pre = c.requires in
    let l = c.loop-t in
    let next = c.min-next.result in
    rw pre.0 (
      window_fits window_ticks p.n next (length l.marks) (omega arith) (omega (arith, pre.1, l.auto.marks)),
      window_fits window_ticks p.n next (length l.values) (omega arith) (omega (arith, pre.2, l.auto.values)),
      omega arith,
      omega arith,
      pre.7,
      pre.9,
    )

pub add_ticks-requires : goal.add_ticks-requires
add_ticks-requires c =
    let p = c.args.plan in
    let pre = c.requires in
    let l = c.loop-t in
    let next = c.min-next.result in
    let kept = c.run_ticks.auto in
    let U = l.invariant.1 in
    rw pre.0 (
      omega arith,
      omega arith,
      window_fits window_ticks p.n next _ (omega arith) (omega (arith, pre.1, l.auto.marks, kept.marks)),
      window_fits window_ticks p.n next _ (omega arith) (omega (arith, pre.2, l.auto.values, kept.values)),
      omega (arith, pre.5, l.auto.tallies),
      tallied_low p.n l.t U.running.past _ _ U.running.ticks U.tallied,
    )

pub loop-t-preserved : goal.loop-t-preserved
loop-t-preserved c =
    let a = c.args in
    let p = a.plan in
    let pre = c.requires in
    let l = c.loop-t in
    let kept = c.run_ticks.auto in (
      omega arith,
      stretched p.n l.t c.min-next.result (plan_rows p) p.log.now a.marks.now a.values.now a.tallies.now
          l.state l.marks l.values l.tallies _ _ _ _ c.run_ticks.result l.invariant.1 pre.8 (omega arith) (omega arith)
          (omega (arith, pre.1, l.auto.marks, kept.marks)) (omega (arith, pre.2, l.auto.values, kept.values))
          (rw pre.0 at (c.run_ticks.ensures a.marks.now a.values.now (running p.mask pre.0 l.invariant.1.running))) (rw pre.0 at c.add_ticks.ensures),
    )

pub returns : goal.returns
returns c =
    let a = c.args in
    let p = a.plan in
    let l = c.loop-t in
    all_ticks p.n l.t a.ticks (plan_rows p) p.log.now a.marks.now a.values.now a.tallies.now l.state l.marks l.values
    l.tallies l.invariant.1 c.loop-t-test.false l.invariant.0 c.requires.1 c.requires.2

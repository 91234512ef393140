use Rattle.runner.proofs.Plans as plans
use Rattle.std.proofs.Common.{ℕ, ◌*◌, ap, arith}
use Rattle.runner.proofs.turn.Goals as goal

pub overflow_mul-at : goal.overflow_mul-at
overflow_mul-at c = omega (arith, plans.logged c.args.plan c.args.t c.requires.2)

pub tick_at-requires : goal.tick_at-requires
tick_at-requires c =
    let pre = c.requires in
    let first = c.first_cell-first.ensures in (
      omega (arith, first, pre.0.place c.args.t (omega arith)),
      omega (arith, first, pre.1.place c.args.t (omega arith)),
      pre.2,
      omega (arith, plans.logged c.args.plan c.args.t pre.2),
    )

pub returns : goal.returns
returns c =
    λ past z r near C.
    rw c.first_cell-first.ensures at (c.tick_at.ensures past (c.collect.ensures past _ z (ap (λ (i : ℕ). c.args.t * i) c.args.plan.counted) r near C))

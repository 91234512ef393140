use Rattle.runner.proofs.Placing.{masked, first_low}
use Rattle.std.proofs.Common.{ℕ, ◌+◌, ◌*◌, ap, arith}
use native.Mathlib.Nat.{mod-le}
use Rattle.runner.proofs.Plans as plans
use Rattle.runner.proofs.plan.Plan.first_cell.Goals as goal

pub overflow_cast-result : goal.overflow_cast-result
overflow_cast-result c = omega (arith, masked c.args.t c.args.self.mask (plans.mask c.args.self), mod-le c.args.t (c.args.self.mask + 1))

pub overflow_mul-result : goal.overflow_mul-result
overflow_mul-result c = omega (arith, first_low c.args.t c.args.self.mask c.args.self.n (plans.mask c.args.self) (omega arith) c.args.self.few)

pub returns : goal.returns
returns c = ap (λ (i : ℕ). i * c.args.self.n) (masked c.args.t c.args.self.mask (plans.mask c.args.self))

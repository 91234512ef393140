use mathlib.Core.Path.{◌∙◌, ap}
use Prim.Native.Nat.{ℕ}
use Rattle.std.specs.Int.{div_ceil}
use Rattle.archive.proofs.Grids.{points_ceil}
use Rattle.archive.proofs.plan.points.Goals as goal

pub returns : goal.returns
returns c =
    c.div_ceil.ensures
    ∙ ap (λ (i : ℕ). div_ceil i c.args.n) c.saturating_sub.ensures
    ∙ points_ceil c.args.n c.args.p c.requires c.args.ticks

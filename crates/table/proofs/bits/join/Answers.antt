use mathlib.Core.Path.{◌∙◌, ap}
use Prim.Native.Nat.{ℕ}
use lib.Bits.{bit_or, or_shifted}
use lib.Pow.{shl_exact}
use lib.Dec.{lit≤}
use Rattle.table.proofs.bits.join.Goals as goal

pub returns : goal.returns
returns c =
    ap (λ (n : ℕ). bit_or n c.args.low) (shl_exact {a = c.args.high} 56 8 64 c.requires.0 (lit≤ tt))
    ∙ or_shifted c.args.high 8 c.args.low c.requires.1

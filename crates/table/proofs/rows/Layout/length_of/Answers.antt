use mathlib.Core.List.{List}
use mathlib.Core.Path.{◌∙◌, ap}
use Prim.Native.Nat.{ℕ}
use lib.ListN.{get_or}
use Rattle.table.proofs.Lengths.{length_at}
use Rattle.table.proofs.rows.Layout.length_of.Goals as goal

pub returns : goal.returns
returns c = ap (λ (l : List ℕ). get_or l c.args.kind 0) c.args.self.now.by_length ∙ length_at c.args.kind c.requires

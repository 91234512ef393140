use mathlib.Core.Path.{◌≡◌, ◌∙◌}
use Prim.Native.Nat.{◌+◌}
use native.Mathlib.Omega.{arith}
use lib.ListN.{set}
use borrow.Author.Tests.{le-leb}
use Rattle.checker.specs.Private.Kept.{under}
use Rattle.checker.proofs.Laws.{put}
use Rattle.checker.proofs.rules.under.Goals.{in-0, in-1, in-2, in_default}
use Rattle.checker.proofs.rules.under.Goals as goal

pub returns : goal.returns
unfolding under
returns c =
    let k = c.args.k.now in
    let stored : c.match-n.conditions ≡ set k.conditions k.count c.args.word = elim c.match-n.branch [
      | in-0 w ↦ w.conditions-is ∙ put k.conditions k.count 0 c.args.word (omega arith) w.in-0.is
      | in-1 w ↦ w.conditions-is ∙ put k.conditions k.count 1 c.args.word (omega arith) w.in-1.is
      | in-2 w ↦ w.conditions-is ∙ put k.conditions k.count 2 c.args.word (omega arith) w.in-2.is
      | in_default w ↦ w.conditions-is ∙ put k.conditions k.count 3 c.args.word (omega arith) (omega arith)
    ] in
    rw (le-leb (k.count + 1) 4 (omega arith), stored)

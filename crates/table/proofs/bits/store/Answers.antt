use mathlib.Core.Path.{◌≡◌, sym, ap, ◌∙◌}
use mathlib.Core.List.{List}
use Prim.Native.Nat.{ℕ, ◌+◌, ◌*◌}
use native.Mathlib.Numerals.{add-one}
use native.Mathlib.Omega.{arith}
use lib.ListN.{get_or, set}
use lib.Seq.{paste-suc}
use Rattle.table.specs.Private.Laid.{nine}
use Rattle.table.proofs.Puts.{nine_at}
use Rattle.table.proofs.bits.store.Goals as goal

pub loop-k-preserved : goal.loop-k-preserved
loop-k-preserved c =
    let a = c.args in
    let l = c.loop-k in
    let v : List ℕ = nine (a.x * 256 + a.y) in
    let e : l.k ≡ 0 + l.k = omega arith in
    ap (set l.out l.k) (c.byte_of.ensures ∙ sym (nine_at (a.x * 256 + a.y) l.k (omega arith)))
    ∙ ap (λ (i : ℕ). set l.out i (get_or v l.k 0)) e ∙ rw (l.invariant, add-one) (paste-suc a.out.now 0 v l.k 0 (omega arith) (omega arith))

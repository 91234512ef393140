use mathlib.Core.Path.{◌≡◌, ◌∙◌, subst}
use Prim.Native.Nat.{ℕ}
use native.Mathlib.Omega.{arith}
use Rattle.table.proofs.Tables.{table_made}
use Rattle.reach.specs.Private.Steps.{Reached}
use Rattle.reach.proofs.Sweeping.{reached_next, reached_all}
use Rattle.reach.proofs.close.Goals as goal

pub loop-k-preserved : goal.loop-k-preserved
loop-k-preserved c =
    let a = c.args in
    let l = c.loop-k in
    let s = c.sweep in
    let t = table_made a.n a.words.now _ c.requires.table in
    (s.auto.sets ∙ l.invariant.0, reached_next a.words.now a.n l.k l.sets s.new.sets t.few c.loop-k-test.true (omega (arith, l.invariant.0)) l.invariant.1 s.ensures)

pub returns : goal.returns
returns c =
    let a = c.args in
    let l = c.loop-k in
    let e : l.k ≡ a.n = omega arith in
    reached_all a.words.now a.n l.sets l.invariant.0 (subst (λ (i : ℕ). Reached a.words.now a.n i l.sets) e l.invariant.1)

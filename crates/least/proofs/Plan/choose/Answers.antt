use mathlib.Core.Path.{◌≡◌, ◌∙◌, ap, sym, subst}
use mathlib.Core.Bool.{true}
use Prim.Native.Nat.{ℕ}
use native.Mathlib.Omega.{arith}
use lib.Dec.{ltb}
use lib.ListN.{length, get_or}
use borrow.Author.Rules.{rules}
use Rattle.std.specs.Prelude.{MatchOption}
use Rattle.table.proofs.Tables.{table_made}
use Rattle.reach.specs.Sets.{has}
use Rattle.reach.proofs.SetLists.{sets_length}
use Rattle.least.specs.Parts.{below}
use Rattle.least.specs.Answers.{best}
use Rattle.least.specs.Private.Steps.{Chosen}
use Rattle.least.proofs.Numbers.{below_le}
use Rattle.least.proofs.Choosing.{chosen_first, in_some, fewer, set_at, taken, not_fewer, not_differing_lem}
use Rattle.least.proofs.Plan.choose.Goals as goal
use Rattle.least.proofs.Plan.choose.Goals.{then-fewer+then-part_differs, else-fewer, else-fewer-via-then-fewer+else-part_differs, else-fewer-via-else-fewer}

-- the test of the count, by the best so far
tested : (c : goal.Joined-fewer)
    → c.is_none_or-fewer.result
    ≡ ltb (below (has (get_or c.args.sets.now c.loop-set.set-index 0)) c.args.self.count) (best c.args.self.count c.args.self.words.now c.loop-set.set-index).count
tested c =
    let s = c.args.self in
    let l = c.loop-set in
    let count = c.rank-count in
    let r = c.is_none_or-fewer.result in
    let t = table_made s.count s.words.now _ s.is_table in
    let few = below_le (has (get_or c.args.sets.now l.set-index 0)) s.count in
    let x : MatchOption l.least (r ≡ true) (λ y. r ≡ ltb count.result (below (has y) s.count)) =
    in_some _ _ _ l.least (λ y q. search rules) c.is_none_or-fewer.ensures in
    fewer s.count s.words.now _ t l.set-index l.least count.result r l.invariant (omega (arith, count.ensures, few, s.few)) x
    ∙ ap (λ (i : ℕ). ltb i (best s.count s.words.now l.set-index).count) count.ensures

pub loop-set-init : goal.loop-set-init
loop-set-init c = chosen_first _ _

pub loop-set-preserved : goal.loop-set-preserved
loop-set-preserved c =
    let s = c.args.self in
    let ws = s.words.now in
    let l = c.loop-set in
    let t = table_made s.count ws _ s.is_table in
    let x : ℕ = get_or c.args.sets.now l.set-index 0 in
    let is = set_at s.count ws c.args.sets.now l.set-index c.requires c.loop-set-test.true in
    let r = c.is_none_or-fewer.result in
    elim c.if-fewer.branch [
      | then-fewer+then-part_differs w ↦ rw w.least-is
          (taken s.count ws _ t l.set-index x is r (tested c) w.if-fewer.true (sym w.part_differs.ensures ∙ w.if-part_differs.true))
      | else-fewer w ↦ rw w.least-is
          (elim w.else-fewer.branch [
            | else-fewer-via-then-fewer+else-part_differs v ↦ not_differing_lem s.count ws _ t l.set-index x is r (tested c) l.least l.invariant
                (sym v.part_differs.ensures ∙ v.if-part_differs.false)
            | else-fewer-via-else-fewer v ↦ not_fewer s.count ws _ t l.set-index x is r (tested c) l.least l.invariant v.if-fewer.false
          ])
    ]

pub returns : goal.returns
returns c =
    let s = c.args.self in
    let l = c.loop-set in
    let e : l.set-index ≡ s.count = omega (arith, ap length c.requires, sets_length s.count s.words.now s.count) in
    subst (λ (i : ℕ). Chosen s.count s.words.now i l.least) e l.invariant

use mathlib.Core.Path.{◌≡◌, refl, sym, ◌∙◌, ap}
use Prim.Native.Nat.{◌<◌}
use native.Mathlib.Omega.{arith}
use mathlib.Core.List.{[], ◌∷◌, map}
use lib.ListN.{length}
use lib.Seq.{take_all}
use Rattle.std.proofs.lemmas.List.{take_more_set, map-append}
use Rattle.std.proofs.lemmas.List.Sorted.{IsNonDecreasingBy-from_sort}
use Rattle.loads.specs.Loads.{lines_from, key}
use Rattle.loads.specs.Private.Words.{line_at, lines_of}
use Rattle.loads.proofs.Sums.{lines_more}
use Rattle.loads.proofs.Sorting.{keys_sorted}
use Rattle.loads.proofs.Flows.sort_keys.Goals as goal

pub loop-f-init : goal.loop-f-init
unfolding lines_from
loop-f-init c = refl

pub loop-f-preserved : goal.loop-f-preserved
loop-f-preserved c =
    let f = c.loop-f.f in
    let line = line_at c.args.self.now in
    let h : f < length c.loop-f.keys = omega (arith, c.loop-f.auto.keys) in
    rw (take_more_set c.loop-f.keys f c.key.result h, lines_more line f, map-append key (lines_from line f 0) (line f ∷ []), c.loop-f.invariant, c.key.ensures.value)

pub returns : goal.returns
returns c =
    let flows = c.args.self.now in
    let l = c.loop-f in
    let s = c.sort_unstable in
    let e : l.f ≡ flows.count = omega arith in
    let p : l.keys ≡ map key (lines_of flows) = sym (take_all l.f l.keys (omega (arith, l.auto.keys))) ∙ l.invariant ∙ ap (λ n. map key (lines_from (line_at flows) n 0)) e in
    keys_sorted (line_at flows) (λ g. refl) flows.count flows.few s.new.self (rw p at s.ensures.permutation) (IsNonDecreasingBy-from_sort (λ x. x) _ s.ensures.sorted)

use mathlib.Core.List.{List}
use Prim.Native.Nat.{ℕ}
use native.Mathlib.Omega.{arith}
use Rattle.std.proofs.lemmas.Result.{err_from_is_err_and}
use Rattle.reach.specs.Sets.{has}
use Rattle.least.specs.Parts.{part_flows}
use Rattle.least.proofs.Chosen.{chosen_length}
use Rattle.least.proofs.Choosing.{giving_flows, handed_on, no_room_lem, laid}
use Rattle.least.proofs.least_flows.Goals as goal

pub returns-in_err-set : goal.returns-in_err-set
returns-in_err-set c =
    let a = c.args in
    let ws = a.words.now in
    let p = err_from_is_err_and c.from_residual.result c.from_residual.ensures.1 in
    let both = handed_on 1 (part_flows a.count) (λ (l : List ℕ). l) a.count ws a.flows.now c.in_err-set.field-0.0 c.in_err-set.ensures in
    record { answered = rw (p.1, p.2) both.0; stored = both.1 }

pub returns-then-flows-rank : goal.returns-then-flows-rank
returns-then-flows-rank c =
    let a = c.args in
    let both = no_room_lem 1 (part_flows a.count) (λ (l : List ℕ). l) a.count a.words.now a.flows.now _ c.in_ok-set.ensures c.rank.result c.rank.ensures (omega (arith, c.if-flows-rank.true)) in
    record { answered = rw c.at.ensures both.0; stored = both.1 }

pub returns : goal.returns
returns c =
    let a = c.args in
    let ws = a.words.now in
    let set = c.in_ok-set.set in
    let g = c.in_ok-set.ensures in
    let p = c.store_flows in
    let both = laid 1 (part_flows a.count) (λ (l : List ℕ). l) a.count ws a.flows.now set g p.result p.ensures.value
    (omega (arith, c.rank.ensures, p.ensures.value, c.if-flows-rank.false)) (chosen_length (has set) (λ f. f) a.count) (giving_flows a.count ws set g) p.new.flows p.ensures.flows_after in
    record { answered = both.0; stored = both.1 }

use mathlib.Core.Path.{◌≡◌, refl}
use mathlib.Core.List.{List}
use Prim.Native.Nat.{ℕ, ◌≤◌, ◌<◌}
use native.Mathlib.Omega.{arith}
use borrow.Author.Rules.{rules}
use Rattle.std.specs.Prelude.{Option, Some, None, IsSome, IsNone, MatchOption}
use Rattle.std.proofs.lemmas.Iterator.{first_from_Range}
use Rattle.rates.specs.declared.steps.Rate.{Rate}
use Rattle.rates.specs.Private.Spread.{rate_at, Known, LowestUnknown}
use Rattle.rates.proofs.Draft.lowest.Goals as goal

known : (o : Option Rate) → IsSome o → (q : Rate) × (o ≡ Some q)
known (Some q) h = (q, refl)
known None h = absurd (cc)

unknown : (o : Option Rate) → IsNone o → o ≡ None
unknown None h = refl
unknown (Some q) h = absurd (cc)

-- by what `find` says of the numbers below n
by_find : (n : ℕ) (st : List (Option Rate)) (r : Option ℕ)
    → MatchOption r ((k : ℕ) → 0 ≤ k → k < n → IsSome (rate_at st k))
    (λ i. (0 ≤ i) × (i < n) × IsNone (rate_at st i) × ((k : ℕ) → 0 ≤ k → k < i → IsSome (rate_at st k)))
    → MatchOption r ((g : ℕ) → g < n → Known st g) (LowestUnknown n st)
by_find n st None h = λ g l. known _ (h g (omega arith) l)
by_find n st (Some f) h = record { within = h.1; there = unknown _ h.2; below = λ g l. known _ (h.3 g (omega arith) l) }

pub returns : goal.returns
returns c =
    let st = c.args.rates.now in
    by_find c.args.self.count st c.find.result
    (first_from_Range _ _ _ c.find.result (λ f. IsNone (rate_at st f)) (λ f. IsSome (rate_at st f)) c.find.ensures.ran (search rules) (search rules))

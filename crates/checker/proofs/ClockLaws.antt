-- Clocks that a test finds equal are equal, and the reverse. Assumes nothing.
use mathlib.Core.Path.{◌≡◌, refl, sym, ap₂, subst}
use mathlib.Core.Bool.{true, false, ◌&&◌, beq, false≢true}
use mathlib.Core.List.{List, [], ◌∷◌}
use lib.Dec.{eqb}
use borrow.Author.Tests.{eqb-true, eq-eqb}
use Rattle.table.proofs.Tests.{and_left, and_right, and_both, beq_true, beq_same}
use Rattle.checker.specs.Clocks.{Condition, Clock, is_empty, plain, same_conditions, same_clock}

condition_path : {c d : Condition} → c.flow ≡ d.flow → c.truth ≡ d.truth → c.view ≡ d.view → c ≡ d
condition_path p q r = λ i. record { flow = p i; truth = q i; view = r i }

clock_path : {j k : Clock} → j.period ≡ k.period → j.phase ≡ k.phase → j.conditions ≡ k.conditions → j ≡ k
clock_path p q r = λ i. record { period = p i; phase = q i; conditions = r i }

pub same_conditions_lem : (cs ds : List Condition) → same_conditions cs ds ≡ true → cs ≡ ds
same_conditions_lem [] [] e = refl
same_conditions_lem [] (d ∷ ds) e = absurd (false≢true e)
same_conditions_lem (c ∷ cs) [] e = absurd (false≢true e)
same_conditions_lem (c ∷ cs) (d ∷ ds) e =
    let r : (beq c.truth d.truth && (eqb c.view d.view && same_conditions cs ds)) ≡ true = and_right (eqb c.flow d.flow) _ e in
    let s : (eqb c.view d.view && same_conditions cs ds) ≡ true = and_right (beq c.truth d.truth) _ r in
    ap₂ ◌∷◌
    (condition_path (eqb-true _ _ (and_left (eqb c.flow d.flow) _ e)) (beq_true _ _ (and_left _ _ r)) (eqb-true _ _ (and_left (eqb c.view d.view) _ s)))
    (same_conditions_lem cs ds (and_right (eqb c.view d.view) _ s))

pub same_clock_lem : (j k : Clock) → same_clock j k ≡ true → j ≡ k
same_clock_lem j k e =
    let r : (eqb j.phase k.phase && same_conditions j.conditions k.conditions) ≡ true = and_right (eqb j.period k.period) _ e in
    clock_path (eqb-true _ _ (and_left (eqb j.period k.period) _ e)) (eqb-true _ _ (and_left (eqb j.phase k.phase) _ r))
    (same_conditions_lem _ _ (and_right (eqb j.phase k.phase) _ r))

conditions_same : (cs : List Condition) → same_conditions cs cs ≡ true
conditions_same [] = refl
conditions_same (c ∷ cs) =
    and_both (eq-eqb c.flow c.flow refl)
    (and_both (beq_same c.truth c.truth refl) (and_both (eq-eqb c.view c.view refl) (conditions_same cs)))

pub clock_same : (j k : Clock) → j ≡ k → same_clock j k ≡ true
clock_same j k e =
    subst (λ (i : Clock). same_clock j i ≡ true) e
    (and_both (eq-eqb j.period j.period refl) (and_both (eq-eqb j.phase j.phase refl) (conditions_same j.conditions)))

pub plain_empty : (k : Clock) → plain k ≡ true → k.conditions ≡ []
plain_empty k e = go k.conditions e
  where
    go : (cs : List Condition) → is_empty cs ≡ true → cs ≡ []
    go [] e = refl
    go (c ∷ cs) e = absurd (false≢true e)

-- plain clocks differ in period or phase
pub plain_differ : (j k : Clock) → plain j ≡ true → plain k ≡ true → same_clock j k ≡ false → j.period ≡ k.period → j.phase ≡ k.phase → ⊥
plain_differ j k x y e p q =
    let c : j.conditions ≡ k.conditions = rw (plain_empty j x) (sym (plain_empty k y)) in
    false≢true (rw e at (clock_same j k (clock_path p q c)))

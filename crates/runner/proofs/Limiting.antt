-- The limits of either run, test by test. Assumes nothing.
use Rattle.std.proofs.Common.{Ok, Err, ◌≡◌, ℕ, ◌*◌, ◌≤◌, Bool, true, false, ◌&&◌, eqb, leb, sym, refl, ap, ◌∙◌, eqb-true, leb-true}
use Rattle.table.specs.declared.refusal.Refused.{Refused}
use Rattle.table.specs.declared.refusal.Refusal.{Refusal}
use Rattle.table.specs.declared.refusal.Refusal.TheVariants.{TooManyTicks, WrongLog}
use Rattle.table.specs.Answers.{Result, good, refused, unless, then, named}
use Rattle.table.proofs.Tests.{and_left, and_right, unless_good}
use Rattle.runner.specs.Private.Placed.{limits, given}
use Rattle.runner.proofs.Ticking.{end_or_clash, same_clash}

-- a guard beside another for the same cause is a guard behind it
pub unless_both : {A : Type 0} (a b : Bool) (why : Refusal) (f : ℕ) (r : Result A) → unless (a && b) why f r ≡ unless a why f (unless b why f r)
unless_both true b why f r = refl
unless_both false b why f r = refl

module _ (ticks most logged inputs cells : ℕ) (short : Refusal) (marks values : ℕ) where
  -- what goes on behind the limits
  pub limits_then : {A : Type 0} (x : Result A)
      → then (limits ticks most logged inputs cells short marks values) (λ u. x)
      ≡ unless (leb ticks most) TooManyTicks 0 (unless (eqb logged (ticks * inputs)) WrongLog 0 (unless (leb cells marks && leb cells values) short 0 x))
  limits_then {A} x = go (leb ticks most) (eqb logged (ticks * inputs)) (leb cells marks && leb cells values)
    where
      go : (a b c : Bool)
          → then (unless a TooManyTicks 0 (unless b WrongLog 0 (unless c short 0 (good tt)))) (λ (u : Unit {0}). x)
          ≡ unless a TooManyTicks 0 (unless b WrongLog 0 (unless c short 0 x))
      go true true true = refl
      go true true false = refl
      go true false c = refl
      go false b c = refl

  -- limits that are kept
  kept : (u : Unit {0}) → limits ticks most logged inputs cells short marks values ≡ good u
      → (ticks ≤ most) × (logged ≡ ticks * inputs) × (cells ≤ marks) × (cells ≤ values)
  kept u e =
      let few = unless_good (leb ticks most) TooManyTicks 0 _ u e in
      let exact = unless_good (eqb logged (ticks * inputs)) WrongLog 0 _ u few.1 in
      let room = unless_good (leb cells marks && leb cells values) short 0 _ u exact.1 in (
        leb-true ticks most few.0,
        eqb-true logged (ticks * inputs) exact.0,
        leb-true cells marks (and_left (leb cells marks) (leb cells values) room.0),
        leb-true cells values (and_right (leb cells marks) (leb cells values) room.0),
      )

  -- what the tests tell of a run behind the limits: their refusal, or that the limits are kept
  module _ {A : Type 0} (whole x : Result A) (tests : whole ≡ then (limits ticks most logged inputs cells short marks values) (λ u. x)) where
    behind : (y : Result (Unit {0})) → limits ticks most logged inputs cells short marks values ≡ y → whole ≡ then y (λ u. x)
    behind y q = tests ∙ ap (λ (v : Result (Unit {0})). then v (λ u. x)) q

    pub not_kept : (e : Refused) → Err e ≡ given (limits ticks most logged inputs cells short marks values) → whole ≡ refused e.why e.flow × (e ≡ named e.why e.flow)
    not_kept e a = go (limits ticks most logged inputs cells short marks values) refl a
      where
        go : (y : Result (Unit {0})) → limits ticks most logged inputs cells short marks values ≡ y → Err e ≡ given y → whole ≡ refused e.why e.flow × (e ≡ named e.why e.flow)
        go (good u) q a = end_or_clash (sym a)
        go (refused why f) q a =
            let z : e ≡ named why f = same_clash a in
            (behind (refused why f) q ∙ sym (ap (λ (d : Refused). refused d.why d.flow) z), z ∙ sym (ap (λ (d : Refused). named d.why d.flow) z))

    pub kept_all : (u : Unit {0}) → Ok u ≡ given (limits ticks most logged inputs cells short marks values)
        → (whole ≡ x) × (ticks ≤ most) × (logged ≡ ticks * inputs) × (cells ≤ marks) × (cells ≤ values)
    kept_all u a = go (limits ticks most logged inputs cells short marks values) refl a
      where
        go : (y : Result (Unit {0})) → limits ticks most logged inputs cells short marks values ≡ y → Ok u ≡ given y
            → (whole ≡ x) × (ticks ≤ most) × (logged ≡ ticks * inputs) × (cells ≤ marks) × (cells ≤ values)
        go (good v) q a = let k = kept v q in (behind (good v) q, k.0, k.1, k.2, k.3)
        go (refused why f) q a = end_or_clash a

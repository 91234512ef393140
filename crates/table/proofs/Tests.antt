-- Tests that were passed or not, and results that were reached. Assumes nothing.
use mathlib.Core.Path.{◌≡◌, refl, sym}
use Prim.Native.Nat.{ℕ}
use native.Mathlib.Omega.{arith}
use mathlib.Core.Bool.{Bool, true, false, ◌&&◌, ◌||◌, beq, false≢true}
use Rattle.table.specs.declared.refusal.Refusal.{Refusal}
use Rattle.table.specs.Answers.{Result, good, refused, unless, then}

-- what a conjunction of tests says
pub and_left : (a b : Bool) → (a && b) ≡ true → a ≡ true
and_left true b e = refl
and_left false b e = absurd (false≢true e)

pub and_right : (a b : Bool) → (a && b) ≡ true → b ≡ true
and_right true b e = e
and_right false b e = absurd (false≢true e)

pub and_both : {a b : Bool} → a ≡ true → b ≡ true → (a && b) ≡ true
and_both p q = rw (p, q)

-- a test beside one whose outcome is known
pub and-true : (b : Bool) → (b && true) ≡ b
and-true true = refl
and-true false = refl

pub and_false : (b : Bool) → (b && false) ≡ false
and_false true = refl
and_false false = refl

pub or_false : (b : Bool) → (b || false) ≡ b
or_false true = refl
or_false false = refl

-- a disjunction that is passed
pub or_left : (a b : Bool) → a ≡ true → (a || b) ≡ true
or_left a b e = rw e

pub or_right : (a b : Bool) → b ≡ true → (a || b) ≡ true
or_right true b e = refl
or_right false b e = e

pub one_of_lem : (a b : Bool) {P : Type 0} → (a ≡ true → P) → (b ≡ true → P) → (a || b) ≡ true → P
one_of_lem true b p q e = p refl
one_of_lem false b p q e = q e

-- two tests that pass together are one
pub same_test : (a b : Bool) → (a ≡ true → b ≡ true) → (b ≡ true → a ≡ true) → a ≡ b
same_test true b f g = sym (f refl)
same_test false true f g = g refl
same_test false false f g = refl

pub beq_true : (a b : Bool) → beq a b ≡ true → a ≡ b
beq_true true true e = refl
beq_true true false e = absurd (false≢true e)
beq_true false true e = absurd (false≢true e)
beq_true false false e = refl

pub beq_same : (a b : Bool) → a ≡ b → beq a b ≡ true
beq_same true b e = rw (← e)
beq_same false b e = rw (← e)

-- a test is passed or failed
pub data Tried (b : Bool) : Type 0 where
  passed : b ≡ true → Tried b
  failed : b ≡ false → Tried b

pub try : (b : Bool) → Tried b
try true = passed refl
try false = failed refl

pub not_good : {A B : Type 0} {why : Refusal} {f : ℕ} {a : A} → refused why f ≡ good a → B
not_good e = absurd (let z : ◌≡◌ {A = ℕ} 0 1 = cc in omega arith)

module _ {A : Type 0} where
  pub good_inj : {a b : A} → good a ≡ good b → a ≡ b
  good_inj e = cc

  -- a guard that was passed
  pub unless_good : (b : Bool) (why : Refusal) (f : ℕ) (r : Result A) (a : A) → unless b why f r ≡ good a → (b ≡ true) × (r ≡ good a)
  unless_good true why f r a e = (refl, e)
  unless_good false why f r a e = not_good e

  -- a step that led to a result
  pub then_good : {B : Type 0} (r : Result A) (go : A → Result B) (b : B) → then r go ≡ good b → (a : A) × (r ≡ good a) × (go a ≡ good b)
  then_good (good a) go b e = (a, refl, e)
  then_good (refused why f) go b e = not_good e

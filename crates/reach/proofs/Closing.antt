-- To which flows a flow leads, and the same worked out through flows below k. Assumes nothing.
use mathlib.Core.Path.{◌≡◌, refl, subst}
use Prim.Native.Nat.{ℕ, zero, suc, ◌<◌}
use native.Mathlib.Decide.{dec_lt}
use native.Mathlib.Omega.{arith}
use mathlib.Core.Bool.{Bool, true, false, ◌&&◌, ◌||◌}
use mathlib.Core.List.{List}
use lib.Dec.{eqb}
use borrow.Author.Tests.{eqb-true, eq-eqb}
use Rattle.table.specs.Rows.{Row}
use Rattle.table.specs.Plain.{row_words}
use Rattle.table.specs.Tables.{row_at}
use Rattle.table.proofs.Tests.{and_left, and_right, and_both, or_left, or_right}
use Rattle.table.proofs.Tables.{Table}
use Rattle.table.proofs.Linked.{names_inside}
use Rattle.reach.specs.Sets.{Flows}
use Rattle.reach.specs.Reach.{named, Leads, itself, onward, through}

-- a test of two that is passed
pub data Either (a b : Bool) : Type 0 where
  left : a ≡ true → Either a b
  right : b ≡ true → Either a b

pub either : (a b : Bool) → (a || b) ≡ true → Either a b
either true b e = left refl
either false b e = right e

module _ (step : ℕ → Flows) where
  pub leads_on : (f g h : ℕ) → Leads step f g → Leads step g h → Leads step f h
  leads_on f g h x itself = x
  leads_on f g h x (onward i j y e) = onward i h (leads_on f g i x y) e

  -- what is worked out is so
  pub through_leads : (k f g : ℕ) → through step k f g ≡ true → Leads step f g
  unfolding through
  through_leads zero f g e = go (either (eqb f g) (step f g) e)
    where
      go : Either (eqb f g) (step f g) → Leads step f g
      go (left x) = subst (Leads step f) (eqb-true f g x) itself
      go (right x) = onward f g itself x
  through_leads (suc k) f g e =
      go (either (through step k f g) (through step k f k && through step k k g) e) (through_leads k f g) (through_leads k f k) (through_leads k k g)
    where
      go : Either (through step k f g) (through step k f k && through step k k g)
          → (through step k f g ≡ true → Leads step f g) → (through step k f k ≡ true → Leads step f k) → (through step k k g ≡ true → Leads step k g) → Leads step f g
      go (left x) p q r = p x
      go (right x) p q r = leads_on f k g (q (and_left (through step k f k) _ x)) (r (and_right (through step k f k) _ x))

  -- the steps of the definition
  through_same : (k f g : ℕ) → through step k f g ≡ true → through step (suc k) f g ≡ true
  unfolding through
  through_same k f g e = or_left (through step k f g) _ e

  through_by : (k f g : ℕ) → through step k f k ≡ true → through step k k g ≡ true → through step (suc k) f g ≡ true
  unfolding through
  through_by k f g x y = or_right (through step k f g) _ (and_both x y)

  through_cases : (k f g : ℕ) → through step (suc k) f g ≡ true → Either (through step k f g) (through step k f k && through step k k g)
  unfolding through
  through_cases k f g e = either (through step k f g) _ e

  pub through_itself : (k f : ℕ) → through step k f f ≡ true
  unfolding through
  through_itself zero f = or_left (eqb f f) _ (eq-eqb f f refl)
  through_itself (suc k) f = or_left (through step k f f) _ (through_itself k f)

  through_one : (k f g : ℕ) → step f g ≡ true → through step k f g ≡ true
  unfolding through
  through_one zero f g e = or_right (eqb f g) _ e
  through_one (suc k) f g e = or_left (through step k f g) _ (through_one k f g e)

  -- through a flow below k
  joined : (k f a g : ℕ) → a < k → through step k f a ≡ true → through step k a g ≡ true → through step k f g ≡ true
  joined zero f a g l x y = absurd (omega arith)
  joined (suc k) f a g l x y =
      elim (dec_lt a k) [
        | yes z ↦ below z (through_cases k f a x) (through_cases k a g y) (joined k f a g z) (joined k f a k z) (joined k k a g z)
        | no z ↦ (let e : a ≡ k = omega arith in
            at (subst (λ (i : ℕ). through step (suc k) f i ≡ true) e x) (subst (λ (i : ℕ). through step (suc k) i g ≡ true) e y))
      ]
    where
      to_k : Either (through step k f k) (through step k f k && through step k k k) → through step k f k ≡ true
      to_k (left p) = p
      to_k (right p) = and_left (through step k f k) _ p

      from_k : Either (through step k k g) (through step k k k && through step k k g) → through step k k g ≡ true
      from_k (left p) = p
      from_k (right p) = and_right (through step k k k) _ p

      at : through step (suc k) f k ≡ true → through step (suc k) k g ≡ true → through step (suc k) f g ≡ true
      at x y = through_by k f g (to_k (through_cases k f k x)) (from_k (through_cases k k g y))

      below : a < k → Either (through step k f a) (through step k f k && through step k k a) → Either (through step k a g) (through step k a k && through step k k g)
          → (through step k f a ≡ true → through step k a g ≡ true → through step k f g ≡ true)
          → (through step k f a ≡ true → through step k a k ≡ true → through step k f k ≡ true)
          → (through step k k a ≡ true → through step k a g ≡ true → through step k k g ≡ true) → through step (suc k) f g ≡ true
      below z (left p) (left q) u v w = through_same k f g (u p q)
      below z (left p) (right q) u v w = through_by k f g (v p (and_left (through step k a k) _ q)) (and_right (through step k a k) _ q)
      below z (right p) (left q) u v w = through_by k f g (and_left (through step k f k) _ p) (w (and_right (through step k f k) _ p) q)
      below z (right p) (right q) u v w = through_by k f g (and_left (through step k f k) _ p) (and_right (through step k a k) _ q)

  -- one step more, from a flow of the plan
  pub through_step : (m f g h : ℕ) → g < m → through step m f g ≡ true → step g h ≡ true → through step m f h ≡ true
  through_step m f g h l x e = joined m f g h l x (through_one m g h e)

  -- what is so is worked out, where no step leaves the plan
  module _ (m : ℕ) (inside : (f g : ℕ) → f < m → step f g ≡ true → g < m) where
    pub leads_through : (f g : ℕ) → f < m → Leads step f g → (g < m) × (through step m f g ≡ true)
    leads_through f g l itself = (l, through_itself m f)
    leads_through f g l (onward h i x e) =
        let y : (h < m) × (through step m f h ≡ true) = leads_through f h l x in
        (inside h g y.0 e, through_step m f h g y.0 y.1 e)

-- the flows that a table's rows name are flows of the table
pub named_inside : (m : ℕ) (words : List ℕ) (rows : List Row) → Table m words rows → (f g : ℕ) → f < m → named words f g ≡ true → g < m
named_inside m words rows t f g l e = names_inside m f (row_words words f) (row_at rows f) (omega arith) (t.row_at_lem f l) g e

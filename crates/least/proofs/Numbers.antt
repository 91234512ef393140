-- The numbers that a part's flows get: they grow with the flow. Assumes nothing.
use mathlib.Core.Path.{◌≡◌, refl, sym, ◌∙◌, ap, ap₂}
use Prim.Native.Nat.{ℕ, zero, suc, ◌+◌, ◌≤◌, ◌<◌}
use native.Mathlib.Decide.{dec_lt}
use native.Mathlib.Omega.{arith}
use mathlib.Core.Bool.{Bool, true, false, false≢true}
use Rattle.table.specs.Bits.{bit}
use Rattle.table.proofs.Tests.{Tried, passed, failed, try}
use Rattle.reach.specs.Sets.{Flows}
use Rattle.least.specs.Parts.{below}

module _ (s : Flows) where
  pub below_in : (f : ℕ) → s f ≡ true → below s (suc f) ≡ suc (below s f)
  unfolding below
  below_in f e = rw e (omega arith)

  pub below_out : (f : ℕ) → s f ≡ false → below s (suc f) ≡ below s f
  unfolding below
  below_out f e = rw e (omega arith)

  below_next : (f : ℕ) → below s f ≤ below s (suc f)
  unfolding below
  below_next f = omega arith

  pub below_mono : (f g : ℕ) → f ≤ g → below s f ≤ below s g
  below_mono f zero l = let e : f ≡ 0 = omega arith in rw e (omega arith)
  below_mono f (suc g) l =
      elim (dec_lt f (suc g)) [ yes x ↦ omega (arith, below_mono f g (omega arith), below_next g) | no x ↦ (let e : f ≡ suc g = omega arith in rw e (omega arith)) ]

  pub below_lt : (f g : ℕ) → f < g → s f ≡ true → below s f < below s g
  below_lt f g l e = omega (arith, below_in f e, below_mono (suc f) g l)

  pub below_le : (f : ℕ) → below s f ≤ f
  unfolding below
  below_le zero = omega arith
  below_le (suc f) = go (s f) (below_le f)
    where
      go : (b : Bool) → below s f ≤ f → below s f + bit b ≤ suc f
      go true h = omega arith
      go false h = omega arith

  -- flows of the set with one number are one flow
  pub below_inj : (f g : ℕ) → s f ≡ true → s g ≡ true → below s f ≡ below s g → f ≡ g
  below_inj f g p q e =
      elim (dec_lt f g) [
        | yes x ↦ absurd (omega (arith, below_lt f g x p))
        | no x ↦ elim (dec_lt g f) [ yes y ↦ absurd (omega (arith, below_lt g f y q)) | no y ↦ omega arith ]
      ]

-- a smaller set has fewer flows
pub below_subset : (s t : Flows) (m : ℕ) → ((f : ℕ) → f < m → t f ≡ true → s f ≡ true) → below t m ≤ below s m
below_subset s t zero h = omega (arith, below_le t 0)
below_subset s t (suc f) h = go (try (t f)) (try (s f)) (below_subset s t f (λ g x. h g (omega arith)))
  where
    go : Tried (t f) → Tried (s f) → below t f ≤ below s f → below t (suc f) ≤ below s (suc f)
    go (passed p) (passed q) l = omega (arith, below_in t f p, below_in s f q)
    go (passed p) (failed q) l = absurd (false≢true (sym q ∙ h f (omega arith) p))
    go (failed p) (passed q) l = omega (arith, below_out t f p, below_in s f q)
    go (failed p) (failed q) l = omega (arith, below_out t f p, below_out s f q)

-- sets with the same flows give the same numbers
pub below_same : (s t : Flows) (m : ℕ) → ((f : ℕ) → f < m → s f ≡ t f) → below s m ≡ below t m
unfolding below
below_same s t zero h = refl
below_same s t (suc f) h = ap₂ ◌+◌ (below_same s t f (λ g x. h g (omega arith))) (ap bit (h f (omega arith)))

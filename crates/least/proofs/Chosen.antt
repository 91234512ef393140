-- What is chosen of a set's flows: how many there are, and where each stands. Assumes nothing.
use mathlib.Core.Path.{◌≡◌, refl, sym, ◌∙◌, ap, ap₂}
use Prim.Native.Nat.{ℕ, zero, suc, ◌≤◌, ◌<◌}
use native.Mathlib.Decide.{dec_lt}
use native.Mathlib.Omega.{arith}
use mathlib.Core.Bool.{true, false}
use mathlib.Core.List.{List, [], ◌∷◌, ◌++◌, append_assoc}
use lib.ListN.{length, get_or, take, length-append, get_or-append}
use lib.Seq.{get_or_at, take-suc}
use Rattle.table.proofs.Tests.{Tried, passed, failed, try}
use Rattle.reach.specs.Sets.{Flows}
use Rattle.least.specs.Parts.{below, chosen}
use Rattle.least.proofs.Numbers.{below_in, below_out, below_lt}

module _ {A : Type 0} (s : Flows) (make : ℕ → A) where
  pub chosen_in : (f : ℕ) → s f ≡ true → chosen s make (suc f) ≡ chosen s make f ++ (make f ∷ [])
  unfolding chosen
  chosen_in f e = rw e

  pub chosen_out : (f : ℕ) → s f ≡ false → chosen s make (suc f) ≡ chosen s make f
  unfolding chosen
  chosen_out f e = rw e

  pub chosen_length : (n : ℕ) → length (chosen s make n) ≡ below s n
  unfolding chosen below
  chosen_length zero = refl
  chosen_length (suc n) = go (try (s n)) (chosen_length n)
    where
      go : Tried (s n) → length (chosen s make n) ≡ below s n → length (chosen s make (suc n)) ≡ below s (suc n)
      go (passed p) h = ap length (chosen_in n p) ∙ omega (arith, length-append (chosen s make n) (make n ∷ []), h, below_in s n p)
      go (failed p) h = ap length (chosen_out n p) ∙ h ∙ sym (below_out s n p)

  -- what is given of flow f
  pub chosen_at : (d : A) (n f : ℕ) → f < n → s f ≡ true → get_or (chosen s make n) (below s f) d ≡ make f
  chosen_at d zero f l e = absurd (omega arith)
  chosen_at d (suc n) f l e = elim (dec_lt f n) [ yes x ↦ before x (try (s n)) (chosen_at d n f x e) | no x ↦ last (omega arith) ]
    where
      before : f < n → Tried (s n) → get_or (chosen s make n) (below s f) d ≡ make f → get_or (chosen s make (suc n)) (below s f) d ≡ make f
      before x (passed p) h =
          ap (λ (l : List A). get_or l (below s f) d) (chosen_in n p)
          ∙ get_or-append (chosen s make n) (make n ∷ []) d (below s f) (omega (arith, chosen_length n, below_lt s f n x e)) ∙ h
      before x (failed p) h = ap (λ (l : List A). get_or l (below s f) d) (chosen_out n p) ∙ h

      last : f ≡ n → get_or (chosen s make (suc n)) (below s f) d ≡ make f
      last q =
          ap (λ (l : List A). get_or l (below s f) d) (chosen_in n (ap s (sym q) ∙ e))
          ∙ get_or_at (chosen s make n) (make n) [] d (below s f) (chosen_length n ∙ ap (below s) (sym q)) ∙ ap make (sym q)

  -- flow g, with those below it before it
  pub chosen_split : (n g : ℕ) → g < n → s g ≡ true → (back : List A) × (chosen s make n ≡ chosen s make g ++ (make g ∷ back))
  chosen_split zero g l e = absurd (omega arith)
  chosen_split (suc n) g l e = elim (dec_lt g n) [ yes x ↦ before (try (s n)) (chosen_split n g x e) | no x ↦ last (omega arith) ]
    where
      before : Tried (s n) → (back : List A) × (chosen s make n ≡ chosen s make g ++ (make g ∷ back)) → (back : List A) × (chosen s make (suc n) ≡ chosen s make g ++ (make g ∷ back))
      before (passed p) h = (
        h.0 ++ (make n ∷ []),
        chosen_in n p ∙ ap (λ (l : List A). l ++ (make n ∷ [])) h.1 ∙ append_assoc (chosen s make g) (make g ∷ h.0) (make n ∷ []),
      )
      before (failed p) h = (h.0, chosen_out n p ∙ h.1)

      last : g ≡ n → (back : List A) × (chosen s make (suc n) ≡ chosen s make g ++ (make g ∷ back))
      last q = ([], chosen_in n (ap s (sym q) ∙ e) ∙ ap (λ (i : ℕ). chosen s make i ++ (make i ∷ [])) (sym q))

-- sets with the same flows choose alike
pub chosen_same : {A : Type 0} (s t : Flows) (make make' : ℕ → A) (n : ℕ) → ((f : ℕ) → f < n → s f ≡ t f) → ((f : ℕ) → f < n → s f ≡ true → make f ≡ make' f)
    → chosen s make n ≡ chosen t make' n
unfolding chosen
chosen_same s t make make' zero h e = refl
chosen_same {A} s t make make' (suc n) h e = go (try (s n)) (chosen_same s t make make' n (λ f l. h f (omega arith)) (λ f l. e f (omega arith)))
  where
    go : Tried (s n) → chosen s make n ≡ chosen t make' n → chosen s make (suc n) ≡ chosen t make' (suc n)
    go (passed p) k =
        chosen_in s make n p ∙ ap₂ (λ (l : List A) (a : A). l ++ (a ∷ [])) k (e n (omega arith) p) ∙ sym (chosen_in t make' n (sym (h n (omega arith)) ∙ p))
    go (failed p) k = chosen_out s make n p ∙ k ∙ sym (chosen_out t make' n (sym (h n (omega arith)) ∙ p))

-- every flow
abbrev pub every_flow : Flows
every_flow f = true

pub below_every : (n : ℕ) → below every_flow n ≡ n
unfolding below
below_every zero = refl
below_every (suc n) = omega (arith, below_every n)

pub chosen_every : {A : Type 0} (d : A) (make : ℕ → A) (l : List A) (n : ℕ) → n ≤ length l → ((f : ℕ) → f < n → make f ≡ get_or l f d) → chosen every_flow make n ≡ take n l
unfolding chosen
chosen_every d make l zero x h = refl
chosen_every {A} d make l (suc n) x h =
    ap₂ (λ (k : List A) (a : A). k ++ (a ∷ [])) (chosen_every d make l n (omega arith) (λ f y. h f (omega arith))) (h n (omega arith)) ∙ sym (take-suc l n d x)

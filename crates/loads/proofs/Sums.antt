-- Lines, flow by flow: their text and the sum of their loads. Assumes nothing.
use mathlib.Core.Path.{◌≡◌, refl, sym, ◌∙◌, ap, ap₂}
use Prim.Native.Nat.{ℕ, zero, suc, ◌+◌, ◌*◌, ◌≤◌, ◌<◌}
use native.Mathlib.Nat.{add-zero, zero-add, suc-add}
use native.Mathlib.Omega.{arith}
use mathlib.Core.List.{List, [], ◌∷◌, ◌++◌, append-nil, append_assoc}
use lib.ListN.{length}
use Rattle.loads.specs.Loads.{max_load, Line, load, lines_from, Among, here, there, line_text, lines_text, total}

-- a line more at the end
total_push : (ls : List Line) (l : Line) → total (ls ++ (l ∷ [])) ≡ total ls + load l
unfolding total
total_push [] l = omega arith
total_push (h ∷ ls) l = omega (arith, total_push ls l)

pub text_push : (ls : List Line) (l : Line) → lines_text (ls ++ (l ∷ [])) ≡ lines_text ls ++ line_text l
unfolding lines_text
text_push [] l = append-nil (line_text l)
text_push (h ∷ ls) l = ap (λ (w : List ℕ). line_text h ++ w) (text_push ls l) ∙ sym (append_assoc (line_text h) (lines_text ls) (line_text l))

-- the lines of one flow more
module _ (line : ℕ → Line) where
  from_more : (n f : ℕ) → lines_from line (n + 1) f ≡ lines_from line n f ++ (line (f + n) ∷ [])
  unfolding lines_from
  from_more zero f = rw (add-zero f)
  from_more (suc n) f =
      let g : suc f + n ≡ f + suc n = omega arith in
      rw (suc-add n 1, ← g) (ap (λ (ls : List Line). line f ∷ ls) (from_more n (suc f)))

  pub lines_more : (n : ℕ) → lines_from line (n + 1) 0 ≡ lines_from line n 0 ++ (line n ∷ [])
  lines_more n = from_more n 0 ∙ ap (λ (g : ℕ). lines_from line n 0 ++ (line g ∷ [])) (zero-add n)

  pub total_more : (n : ℕ) → total (lines_from line (n + 1) 0) ≡ total (lines_from line n 0) + load (line n)
  total_more n = ap total (lines_more n) ∙ total_push (lines_from line n 0) (line n)

  -- the same lines by another function
  pub lines_same : (line' : ℕ → Line) (n f : ℕ) → ((g : ℕ) → g < f + n → line g ≡ line' g) → lines_from line n f ≡ lines_from line' n f
  unfolding lines_from
  lines_same line' zero f h = refl
  lines_same line' (suc n) f h = ap₂ ◌∷◌ (h f (omega arith)) (lines_same line' n (suc f) (λ (g : ℕ). λ (l : g < suc f + n). h g (omega arith)))

-- loads that are bounded have a bounded total
pub total_bound : (ls : List Line) → ((l : Line) → Among l ls → load l ≤ max_load) → total ls ≤ max_load * length ls
unfolding total
total_bound [] h = omega arith
total_bound (l ∷ ls) h = omega (arith, h l (here refl), total_bound ls (λ (x : Line). λ (i : Among x ls). h x (there i)))

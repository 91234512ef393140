-- Cells that stand at the front of marks and values. Assumes nothing.
use Rattle.std.proofs.Common.{◌≡◌, ℕ, ◌<◌, Bool, true, false, cond, not, eqb, ltb, List, [], ◌∷◌, ◌++◌, map, length, get_or, drop, set, sym, refl, ap, ◌∙◌, subst, arith, ltb-false, ltb-true}
use mathlib.Core.Path.{fun_ext}
use mathlib.Core.List.{map-append}
use lib.ListN.{length-map, get_or-map, get_or-append, get_or-eq_default}
use Rattle.table.specs.Answers.{over}
use Rattle.table.proofs.Tests.{Tried, passed, failed, try}
use Rattle.table.proofs.AnswerLaws.{set_over}
use Rattle.semantics.specs.Cells.{Cell, absent, present, mark, value}
use Rattle.semantics.specs.Runs.{cell_in}
use Rattle.semantics.specs.Answers.{mark_byte}
use Rattle.runner.specs.Private.Carried.{cell_at, cells_in}
use Rattle.runner.specs.Private.Ready.{Wrote}

-- one cell more
put_over : (g : Cell → ℕ) (xs : List Cell) (c : Cell) (ys zs zs' : List ℕ) (f : ℕ) → length xs ≡ f → f < length ys → zs ≡ over (map g xs) ys → zs' ≡ set zs f (g c)
    → zs' ≡ over (map g (xs ++ (c ∷ []))) ys
put_over g xs c ys zs zs' f e h z z' =
    z'
    ∙ ap (λ (l : List ℕ). set l f (g c)) z
    ∙ set_over (map g xs) ys f (g c) (length-map xs g ∙ e) h
    ∙ ap (λ (l : List ℕ). over l ys) (sym (map-append g xs (c ∷ [])))

pub cell_back : (c : Cell) → cell_at (mark_byte c) (value c) ≡ c
cell_back absent = refl
cell_back (present v) = refl

-- whether a mark is that of a presence
pub mark_of_cell : (m v : ℕ) → mark (cell_at m v) ≡ not (eqb m 0)
mark_of_cell m v = go (eqb m 0)
  where
    go : (b : Bool) → mark (cond b absent (present v)) ≡ not b
    go true = refl
    go false = refl

pub over_at : (g : Cell → ℕ) (xs : List Cell) (ys : List ℕ) (a : ℕ) → g absent ≡ 0 → a < length xs → get_or (over (map g xs) ys) a 0 ≡ g (get_or xs a absent)
over_at g xs ys a z h =
    get_or-append (map g xs) (drop (length (map g xs)) ys) 0 a (subst (λ (k : ℕ). a < k) (sym (length-map xs g)) h)
    ∙ ap (λ (d : ℕ). get_or (map g xs) a d) (sym z)
    ∙ get_or-map g xs a absent

module _ (now : List Cell) (ms₀ vs₀ ms vs : List ℕ) (W : Wrote now ms₀ vs₀ ms vs) where
  pub wrote_more : (c : Cell) (f : ℕ) (ms' vs' : List ℕ) → length now ≡ f → f < length ms₀ → f < length vs₀ → ms' ≡ set ms f (mark_byte c) → vs' ≡ set vs f (value c)
      → Wrote (now ++ (c ∷ [])) ms₀ vs₀ ms' vs'
  wrote_more c f ms' vs' e h k p q =
      record { marks = put_over mark_byte now c ms₀ ms ms' f e h W.marks p; values = put_over value now c vs₀ vs vs' f e k W.values q }

  pub mark_at_lem : (a : ℕ) → a < length now → get_or ms a 0 ≡ mark_byte (cell_in now a)
  mark_at_lem a h = ap (λ (l : List ℕ). get_or l a 0) W.marks ∙ over_at mark_byte now ms₀ a refl h

  pub value_at_lem : (a : ℕ) → a < length now → get_or vs a 0 ≡ value (cell_in now a)
  value_at_lem a h = ap (λ (l : List ℕ). get_or l a 0) W.values ∙ over_at value now vs₀ a refl h

  -- what marks and values say of the flows below f is what the cells are
  pub here_is : (f : ℕ) → length now ≡ f → cells_in ms vs f ≡ cell_in now
  here_is f e = fun_ext λ a. go a (try (ltb a f))
    where
      go : (a : ℕ) → Tried (ltb a f) → cells_in ms vs f a ≡ cell_in now a
      go a (passed t) =
          let h : a < length now = omega (arith, ltb-true a f t) in
          rw (t, mark_at_lem a h, value_at_lem a h) (cell_back (cell_in now a))
      go a (failed t) = rw (t) (sym (get_or-eq_default now absent {n = a} (omega (arith, ltb-false a f t))))

-- Registers and all other rows; the lowest register that fails a test: none if and only if every register passes. Assumes nothing.
use mathlib.Core.Path.{◌≡◌, refl, sym, ◌∙◌, ap}
use Prim.Native.Nat.{ℕ, suc, ◌+◌, ◌<◌}
use native.Mathlib.Omega.{arith}
use mathlib.Core.Bool.{Bool, true, false, cond, ◌||◌}
use mathlib.Core.List.{List, [], ◌∷◌, ◌++◌}
use mathlib.Core.Option.{Option, none, some, none-ne-some}
use lib.Dec.{eqb}
use lib.ListN.{length}
use borrow.Author.Tests.{eqb-true}
use Rattle.table.specs.Rows.{Row, input, constant, combine, register, faster, slower, later, head, tail, sample, merge, unrated, view}
use Rattle.table.specs.Rows.{on_register, bad_register, Field, operand, source, kinds, kind_count, decode}
use Rattle.table.specs.Tables.{RowHas}
use Rattle.table.proofs.Tests.{Tried, passed, failed, try}
use Rattle.table.proofs.Lists.{Each}
use Rattle.table.proofs.Entries.{every, kind_test}

-- a row is a register, or passes every test of registers
pub data RegisterOr : Row → Type 0 where
  is_register_lem : {v b a : ℕ} → RegisterOr (register v b a)
  is_other : {r : Row} → ((test : ℕ → ℕ → Bool) → on_register test r ≡ true) → RegisterOr r

pub register_or : (r : Row) → RegisterOr r
register_or (input n p) = is_other (λ test. refl)
register_or (constant v n p) = is_other (λ test. refl)
register_or (combine op a b) = is_other (λ test. refl)
register_or (register v b a) = is_register_lem
register_or (faster a k g) = is_other (λ test. refl)
register_or (slower a k) = is_other (λ test. refl)
register_or (later a d) = is_other (λ test. refl)
register_or (head a v s) = is_other (λ test. refl)
register_or (tail a) = is_other (λ test. refl)
register_or (sample u a c) = is_other (λ test. refl)
register_or (merge c a b) = is_other (λ test. refl)
register_or unrated = is_other (λ test. refl)
register_or (view u a c w) = is_other (λ test. refl)

-- tests that agree on the beats and sources of a row agree on the row
pub register_same : (P : Field → ℕ → Type 0) (t u : ℕ → ℕ → Bool) (r : Row) → RowHas P r → ((b a : ℕ) → P operand b → P source a → t b a ≡ u b a)
    → on_register t r ≡ on_register u r
register_same P t u r h e = go r (register_or r) h
  where
    go : (r : Row) → RegisterOr r → RowHas P r → on_register t r ≡ on_register u r
    go r (is_register_lem {b = b} {a = a}) h = e b a h.0 h.1
    go r (is_other p) h = p t ∙ sym (p u)

-- registers are of kind 7 alone: beat and source are the second field and the third
no_register : (test : ℕ → ℕ → Bool) (x y z : ℕ) → every (λ n k. eqb n 7 || on_register test (k.make x y z)) 0 kinds ≡ true
unfolding kinds
no_register test x y z = refl

is_seventh : (test : ℕ → ℕ → Bool) (x y z : ℕ) → on_register test (decode 7 x y z) ≡ test y z
unfolding kinds
is_seventh test x y z = refl

pub register_by : (test : ℕ → ℕ → Bool) (n x y z : ℕ) → n < kind_count → on_register test (decode n x y z) ≡ cond (eqb n 7) (test y z) true
register_by test n x y z l = go (try (eqb n 7)) (kind_test (λ n k. eqb n 7 || on_register test (k.make x y z)) (no_register test x y z) n l)
  where
    go : Tried (eqb n 7) → (eqb n 7 || on_register test (decode n x y z)) ≡ true → on_register test (decode n x y z) ≡ cond (eqb n 7) (test y z) true
    go (passed e) h = rw e (ap (λ (i : ℕ). on_register test (decode i x y z)) (eqb-true n 7 e) ∙ is_seventh test x y z)
    go (failed e) h = rw e (rw e at h)

module _ (test : ℕ → ℕ → Bool) where
  abbrev pub Passes : ℕ → Row → Type 0
  Passes f r = on_register test r ≡ true

  pub none_bad : (f : ℕ) (rs : List Row) → Each Passes f rs → bad_register test f rs ≡ none
  unfolding bad_register
  none_bad f [] h = refl
  none_bad f (r ∷ rs) h = rw h.0 (none_bad (suc f) rs h.1)

  -- past rows of which every register passes
  pub bad_past : (f : ℕ) (front back : List Row) → bad_register test f front ≡ none → bad_register test f (front ++ back) ≡ bad_register test (f + length front) back
  unfolding bad_register
  bad_past f [] back e = ap (λ (i : ℕ). bad_register test i back) (omega arith)
  bad_past f (r ∷ front) back e = go (on_register test r) (bad_past (suc f) front back) e
    where
      go : (b : Bool) → (bad_register test (suc f) front ≡ none → bad_register test (suc f) (front ++ back) ≡ bad_register test (suc f + length front) back)
          → cond b (bad_register test (suc f) front) (some f) ≡ none → cond b (bad_register test (suc f) (front ++ back)) (some f) ≡ bad_register test (f + suc (length front)) back
      go true next h = next h ∙ ap (λ (i : ℕ). bad_register test i back) (omega arith)
      go false next h = absurd (none-ne-some f (sym h))

  -- every register passes, or there is one that does not
  pub data Registers (f : ℕ) (rs : List Row) : Option ℕ → Type 0 where
    all_pass : Each Passes f rs → Registers f rs none
    one_fails : (g : ℕ) (front : List Row) (r : Row) (back : List Row) → rs ≡ front ++ (r ∷ back) → on_register test r ≡ false → Registers f rs (some g)

  next : (f : ℕ) (r : Row) (rs : List Row) (o : Option ℕ) → on_register test r ≡ true → Registers (suc f) rs o → Registers f (r ∷ rs) o
  next f r rs o e (all_pass h) = all_pass (e, h)
  next f r rs o e (one_fails g front q back x y) = one_fails g (r ∷ front) q back (ap (λ (l : List Row). r ∷ l) x) y

  pub registers : (f : ℕ) (rs : List Row) → Registers f rs (bad_register test f rs)
  unfolding bad_register
  registers f [] = all_pass tt
  registers f (r ∷ rs) = go (try (on_register test r)) (registers (suc f) rs)
    where
      go : Tried (on_register test r) → Registers (suc f) rs (bad_register test (suc f) rs) → Registers f (r ∷ rs) (bad_register test f (r ∷ rs))
      go (passed e) h = rw (e, bad_register) (next f r rs _ e h)
      go (failed e) h = rw (e, bad_register) (one_fails f [] r rs refl e)

-- What a kind's number says of the row that it makes: one computed test each, over the whole list of kinds. Assumes nothing.
use Rattle.std.proofs.Common.{◌≡◌, ℕ, ◌<◌, ◌≤◌, Bool, true, false, ◌||◌, eqb, ◌⊎◌, sym, refl, ap, ◌∙◌, inl, inr, arith, eq-eqb, ne_eqb, eqb-true, leb-true}
use mathlib.Core.Bool.{beq, false≢true}
use mir.Val.{bool_byte as from_bool}
use Rattle.table.specs.Bits.{bit}
use Rattle.table.specs.Rows.{Row, Op, input, constant, combine, register, faster, slower, later, head, tail, sample, merge, unrated, view, kinds, kind_count, decode}
use Rattle.table.proofs.Tests.{Tried, passed, failed, try, beq_true}
use Rattle.table.proofs.Entries.{every, kind_test}
use Rattle.runner.specs.Private.Carried.{Combines, start_word}
use Rattle.runner.specs.Private.Ready.{one_of, is_register, looks_back}

-- rows of other kinds than 0, 1 and 7 carry nothing into tick 0
starts_told : (x y z : ℕ) → every (λ n k. eqb n 0 || (eqb n 1 || (eqb n 7 || eqb (start_word (k.make x y z)) 0))) 0 kinds ≡ true
unfolding kinds start_word
starts_told x y z = refl

pub no_start : (n x y z : ℕ) → n < kind_count → (n ≡ 0 → ⊥) → (n ≡ 1 → ⊥) → (n ≡ 7 → ⊥) → start_word (decode n x y z) ≡ 0
no_start n x y z l a b c =
    eqb-true (start_word (decode n x y z)) 0
    (rw (ne_eqb n 0 a, ne_eqb n 1 b, ne_eqb n 7 c) at (kind_test (λ n k. eqb n 0 || (eqb n 1 || (eqb n 7 || eqb (start_word (k.make x y z)) 0))) (starts_told x y z) n l))

-- a kind that is one of those listed
pub of_kind : (kind from k : ℕ) → k ≡ kind → one_of kind from k ≡ true
of_kind kind from k e = rw (eq-eqb k kind e)

pub one_of_lem : (kind from k : ℕ) → one_of kind from k ≡ true → (k ≡ kind) ⊎ (from ≤ k)
one_of_lem kind from k h = go (try (eqb k kind))
  where
    go : Tried (eqb k kind) → (k ≡ kind) ⊎ (from ≤ k)
    go (passed e) = inl (eqb-true k kind e)
    go (failed e) = inr (leb-true from k (rw e at h))

pub seven_of : (k : ℕ) → k < kind_count → is_register k ≡ true → k ≡ 7
seven_of k l h = go (one_of_lem 7 kind_count k h)
  where
    go : (k ≡ 7) ⊎ (kind_count ≤ k) → k ≡ 7
    go (inl e) = e
    go (inr m) = absurd (omega arith)

-- later rows and views are of the kinds that look back
abbrev looks : Row → Bool
looks (input n p) = false
looks (constant v n p) = false
looks (combine op a b) = false
looks (register v b a) = false
looks (faster a k g) = false
looks (slower a k) = false
looks (later a d) = true
looks (head a v s) = false
looks (tail a) = false
looks (sample u a c) = false
looks (merge c a b) = false
looks unrated = false
looks (view u a c w) = true

looks_told : (x y z : ℕ) → every (λ n k. beq (looks (k.make x y z)) (looks_back n)) 0 kinds ≡ true
unfolding kinds
looks_told x y z = refl

looks_by : (n x y z : ℕ) → n < kind_count → looks (decode n x y z) ≡ looks_back n
looks_by n x y z l = beq_true (looks (decode n x y z)) (looks_back n) (kind_test (λ n k. beq (looks (k.make x y z)) (looks_back n)) (looks_told x y z) n l)

pub no_later : (n x y z a d : ℕ) → n < kind_count → looks_back n ≡ false → decode n x y z ≡ later a d → ⊥
no_later n x y z a d l m e = false≢true (sym m ∙ sym (looks_by n x y z l) ∙ ap looks e)

pub no_view : (n x y z : ℕ) (u : Bool) (a c w : ℕ) → n < kind_count → looks_back n ≡ false → decode n x y z ≡ view u a c w → ⊥
no_view n x y z u a c w l m e = false≢true (sym m ∙ sym (looks_by n x y z l) ∙ ap looks e)

-- a test as a number
pub bit_is : (b : Bool) → from_bool b ≡ bit b
bit_is true = refl
bit_is false = refl

-- kinds 2 to 6 have an operator each
pub op_is : (k n : ℕ) (op op' : Op) → k ≡ n → Combines n op → Combines k op' → op ≡ op'
op_is k n op op' q e e' = let z : combine op 0 0 ≡ combine op' 0 0 = sym (e 0 0 0) ∙ ap (λ (i : ℕ). decode i 0 0 0) (sym q) ∙ e' 0 0 0 in cc

pub six : (k : ℕ) → 2 ≤ k → k ≤ 6 → (k ≡ 2 → ⊥) → (k ≡ 3 → ⊥) → (k ≡ 4 → ⊥) → (k ≡ 5 → ⊥) → k ≡ 6
six k l m a b c d = omega arith

pub two_or_more : (k : ℕ) → (k ≡ 0 → ⊥) → (k ≡ 1 → ⊥) → 2 ≤ k
two_or_more k a b = omega arith

pub seven : (k : ℕ) → 2 ≤ k → (k ≡ 2 → ⊥) → (k ≡ 3 → ⊥) → (k ≡ 4 → ⊥) → (k ≡ 5 → ⊥) → (k ≡ 6 → ⊥) → 7 ≤ k
seven k l a b c d e = omega arith

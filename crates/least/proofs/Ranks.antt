-- How many flows of a set are below one, counted as bits of the set's number. Assumes nothing.
use mathlib.Core.Path.{◌≡◌, refl, sym, ◌∙◌, ap, ap₂}
use Prim.Native.Nat.{ℕ, zero, suc, ◌+◌, ◌-◌, ◌*◌, ◌/◌, ◌%◌, ◌^◌, ◌≤◌, ◌<◌}
use native.Mathlib.Decide.{dec_lt}
use native.Mathlib.Nat.{one-mul, mod-lt, mod-eq_of_lt}
use native.Mathlib.Omega.{arith}
use lib.Bits.{bit_and, and_mask}
use lib.Count.{ones_in, ones, ones_cat}
use lib.Dec.{eqb}
use lib.Pow.{pow_pos, shl_exact, mod-pow-add}
use Rattle.table.specs.Bits.{bit}
use Rattle.table.specs.Rows.{max_flows}
use Rattle.reach.specs.Sets.{has}
use Rattle.reach.proofs.SetBits.{has_bit, has_far}
use Rattle.least.specs.Parts.{below}
use Rattle.least.proofs.Numbers.{below_out}

-- one bit
one_bit : (a : ℕ) → a < 2 → ones a ≡ bit (eqb a 1)
unfolding ones ones_in
one_bit zero l = refl
one_bit (suc zero) l = refl
one_bit (suc (suc a)) l = absurd (omega arith)

-- the bits below f
pub rank_bits : (x f : ℕ) → f ≤ max_flows → below (has x) f ≡ ones (x % 2 ^ f)
unfolding below ones ones_in
rank_bits x zero l = let e : x % 1 ≡ 0 = omega arith in rw e
rank_bits x (suc f) l =
    let n : 1 + f ≡ suc f = omega arith in
    let e : x % 2 ^ suc f ≡ x / 2 ^ f % 2 * 2 ^ f + x % 2 ^ f = ap (λ (i : ℕ). x % 2 ^ i) (sym n) ∙ mod-pow-add x 1 f in
    ap₂ ◌+◌ (rank_bits x f (omega arith)) (ap bit (has_bit x f l) ∙ sym (one_bit (x / 2 ^ f % 2) (omega arith)))
    ∙ omega (arith, ones_cat f (x / 2 ^ f % 2) (x % 2 ^ f) (mod-lt x (pow_pos f))) ∙ ap ones (sym e)

-- no table has a flow from max_flows on
below_far : (x f : ℕ) → max_flows ≤ f → below (has x) f ≡ below (has x) max_flows
below_far x zero l = absurd (omega arith)
below_far x (suc f) l =
    elim (dec_lt f max_flows) [
      | yes y ↦ (let e : suc f ≡ max_flows = omega arith in ap (below (has x)) e)
      | no y ↦ below_out (has x) f (has_far x f (omega arith)) ∙ below_far x f (omega arith)
    ]

pub rank_all : (x f : ℕ) → x < 2 ^ 64 → max_flows ≤ f → ones x ≡ below (has x) f
rank_all x f l h = ap ones (sym (mod-eq_of_lt l)) ∙ sym (rank_bits x max_flows (omega arith)) ∙ sym (below_far x f h)

-- the bits below f, by a mask
pub low_bits : (f : ℕ) → f < max_flows → 1 * 2 ^ f % 2 ^ 64 ≡ 2 ^ f
low_bits f l = shl_exact {a = 1} 1 f 64 (omega arith) (omega arith) ∙ one-mul (2 ^ f)

pub rank_mask : (x f : ℕ) → f < max_flows → ones (bit_and x (1 * 2 ^ f % 2 ^ 64 - 1)) ≡ below (has x) f
rank_mask x f l = ap (λ (i : ℕ). ones (bit_and x (i - 1))) (low_bits f l) ∙ ap ones (and_mask x f) ∙ sym (rank_bits x f (omega arith))

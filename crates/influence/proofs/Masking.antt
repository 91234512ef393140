-- The input rows gathered into a set, row by row, and each set kept to them. Assumes nothing.
use mathlib.Core.Path.{◌≡◌, sym, ◌∙◌, ap}
use Prim.Native.Nat.{ℕ, ◌+◌, ◌<◌}
use native.Mathlib.Numerals.{add-one}
use native.Mathlib.Omega.{arith}
use mathlib.Core.List.{List}
use lib.Bits.{bit_and}
use lib.Dec.{eqb}
use lib.ListN.{length, get_or, set, drop_of_length-le}
use Rattle.std.proofs.lemmas.List.{append-nil}
use Rattle.std.proofs.lemmas.Nat.{and_comm}
use Rattle.table.specs.Answers.{over}
use Rattle.table.specs.Rows.{Words, max_flows}
use Rattle.table.specs.Plain.{row_words, per_flow}
use Rattle.table.proofs.AnswerLaws.{over_behind}
use Rattle.table.proofs.PlainRows.{per_length, per_next}
use Rattle.reach.specs.Sets.{set_of, with_flow}
use Rattle.reach.proofs.SetBits.{set_none, set_next}
use Rattle.influence.specs.Felt.{input_at}

pub inputs_none : (words : List ℕ) → 0 ≡ set_of (input_at words) 0
inputs_none words = sym (set_none (input_at words) 0 (λ g l. absurd (omega arith)))

pub inputs_more : (words : List ℕ) (i : ℕ) (row : Words) {x r : ℕ} → i < max_flows → x ≡ set_of (input_at words) i → row ≡ row_words words i → r ≡ with_flow x (eqb row.kind 0) i
    → r ≡ set_of (input_at words) (i + 1)
inputs_more words i row {x} l e w h =
    h ∙ ap (λ (v : Words). with_flow x (eqb v.kind 0) i) w ∙ ap (λ (s : ℕ). with_flow s (input_at words i) i) e ∙ set_next (input_at words) i l
    ∙ ap (set_of (input_at words)) (sym (add-one i))

-- the first f sets kept to another
module _ (mask : ℕ) (old : List ℕ) where
  abbrev masked : ℕ → ℕ
  masked g = bit_and mask (get_or old g 0)

  abbrev pub Masking : ℕ → List ℕ → Type 0
  Masking f sets = sets ≡ over (per_flow masked f) old

  pub masking_more : (f : ℕ) (sets : List ℕ) → f < length old → Masking f sets → Masking (f + 1) (set sets f (bit_and (get_or sets f 0) mask))
  masking_more f sets l s =
      let here : get_or sets f 0 ≡ get_or old f 0 =
      ap (λ (x : List ℕ). get_or x f 0) s ∙ over_behind (per_flow masked f) old f (omega (arith, per_length masked f)) in
      ap (λ (x : List ℕ). set x f (bit_and (get_or sets f 0) mask)) s
      ∙ per_next masked old f _ l (and_comm (get_or sets f 0) mask ∙ ap (bit_and mask) here)

  pub masked_all : (f : ℕ) (sets : List ℕ) → f ≡ length old → Masking f sets → sets ≡ per_flow masked (length old)
  masked_all f sets e s =
      rw (s, e, per_length masked (length old), drop_of_length-le old {i = length old} (omega arith), append-nil (per_flow masked (length old)))

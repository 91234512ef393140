-- The words given out of the clocks kept are the clocks' words. Assumes nothing.
use mathlib.Core.Path.{◌≡◌, refl, sym, ◌∙◌, ap, ap₂}
use Prim.Native.Nat.{ℕ, suc, ◌%◌, ◌/◌, ◌<◌}
use native.Mathlib.Omega.{arith}
use mathlib.Core.List.{List, [], ◌∷◌, ◌++◌, map}
use lib.ListN.{length, get_or}
use Rattle.std.specs.Prelude.{flat_map}
use Rattle.std.proofs.lemmas.List.Edits.{sets}
use Rattle.table.specs.Rows.{max_flows}
use Rattle.checker.specs.Clocks.{Condition, Clock}
use Rattle.checker.specs.Rules.{Every, Below, Within, AllWithin}
use Rattle.checker.specs.Answers.{clock_size, condition_word, four_words, clock_words, clocks_words}
use Rattle.checker.specs.declared.Clock.{Clock as Kept}
use Rattle.checker.specs.Private.Kept.{view_unit, kept_word, kept, given}
use Rattle.checker.proofs.Agree.{flow_part, view_part, apart}
use Rattle.checker.proofs.Laws.{four, stored}
use Rattle.checker.proofs.WordLaws.{view_of}

-- the words of one clock, as they are stored
pub given_stored : (k : Kept) (l : List ℕ) → length k.conditions ≡ 4 → length l ≡ clock_size
    → sets l 0
    (k.period ∷ k.phase ∷ k.count
    ∷ get_or k.conditions 0 0 % view_unit ∷ get_or k.conditions 1 0 % view_unit ∷ get_or k.conditions 2 0 % view_unit ∷ get_or k.conditions 3 0 % view_unit
    ∷ get_or k.conditions 0 0 / view_unit ∷ get_or k.conditions 1 0 / view_unit ∷ get_or k.conditions 2 0 / view_unit ∷ get_or k.conditions 3 0 / view_unit ∷ [])
    ≡ given k
given_stored k l n m =
    stored l _ m
    ∙ ap (λ (cs : List ℕ). k.period ∷ k.phase ∷ k.count ∷ (map (λ (x : ℕ). x % view_unit) cs ++ map (λ (x : ℕ). x / view_unit) cs)) (sym (four k.conditions n))

parts : (cs : List Condition) → Below max_flows cs
    → Every (λ (c : Condition). flow_part (kept_word c) ≡ condition_word c) cs × Every (λ (c : Condition). view_part (kept_word c) ≡ view_of c) cs
parts [] b = (tt, tt)
parts (c ∷ cs) b =
    let x = apart c b.0 in
    let y = parts cs b.1 in
    ((x.0, y.0), (x.1, y.1))

-- four words, each a part of the word kept
four_parts_lem : (word : Condition → ℕ) (part : ℕ → ℕ) (cs : List Condition) → part 0 ≡ 0 → Every (λ (c : Condition). part (kept_word c) ≡ word c) cs
    → map part (four_words kept_word cs) ≡ four_words word cs
four_parts_lem word part [] z h = rw z
four_parts_lem word part (a ∷ []) z h = rw (z, h.0)
four_parts_lem word part (a ∷ b ∷ []) z h = rw (z, h.0, h.1.0)
four_parts_lem word part (a ∷ b ∷ c ∷ []) z h = rw (z, h.0, h.1.0, h.1.1.0)
four_parts_lem word part (a ∷ b ∷ c ∷ d ∷ cs) z h = rw (h.0, h.1.0, h.1.1.0, h.1.1.1.0)

given_kept : (k : Clock) → Within k → given (kept k) ≡ clock_words k
given_kept k w =
    let cs : List Condition = k.conditions in
    let x = parts cs w.1 in
    ap₂ (λ (l m : List ℕ). k.period ∷ k.phase ∷ length cs ∷ (l ++ m)) (four_parts_lem condition_word flow_part cs refl x.0) (four_parts_lem view_of view_part cs refl x.1)

pub all_given : (ks : List Clock) → AllWithin ks → flat_map given (map kept ks) ≡ clocks_words ks
unfolding clocks_words
all_given [] w = refl
all_given (k ∷ ks) w =
    ap₂ ◌++◌ (given_kept k (w 0 (omega arith))) (all_given ks (λ (f : ℕ). λ (l : f < length ks). w (suc f) (omega arith)))

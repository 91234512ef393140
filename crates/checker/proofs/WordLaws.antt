-- The words that the check writes for a flow are its clock's. Assumes nothing.
use mathlib.Core.Path.{◌≡◌, ◌∙◌, ap, subst}
use Prim.Native.Nat.{ℕ, zero, suc, ◌+◌, ◌*◌, min, ◌≤◌, ◌<◌}
use native.Mathlib.Omega.{arith}
use mathlib.Core.List.{List, [], ◌∷◌, ◌++◌, map, append_assoc}
use lib.ListN.{length, get_or, length-append, length-take, length-map, get_or-append}
use lib.Seq.{get_or-append-add, get_or-take}
use Rattle.std.proofs.lemmas.List.{get_or-map}
use Rattle.checker.specs.Clocks.{Condition, Clock}
use Rattle.checker.specs.Rules.{max_conditions, clock_at}
use Rattle.checker.specs.Answers.{clock_size, condition_word, four_words, clock_words, clocks_words}

-- one word a condition
four_words_lem : (word : Condition → ℕ) (cs : List Condition) → length (four_words word cs) ≡ 4
four_words_lem word cs = length-take 4 (map word cs ++ (0 ∷ 0 ∷ 0 ∷ 0 ∷ [])) ∙ four
  where
    four : min 4 (length (map word cs ++ (0 ∷ 0 ∷ 0 ∷ 0 ∷ []))) ≡ 4
    four = omega (arith, length-append (map word cs) (0 ∷ 0 ∷ 0 ∷ 0 ∷ []))

four_at : (word : Condition → ℕ) (cs : List Condition) (i : ℕ) (d : Condition) → i < length cs → length cs ≤ max_conditions
    → get_or (four_words word cs) i 0 ≡ word (get_or cs i d)
four_at word cs i d l few =
    get_or-take 4 (map word cs ++ (0 ∷ 0 ∷ 0 ∷ 0 ∷ [])) i 0 (omega arith)
    ∙ get_or-append (map word cs) (0 ∷ 0 ∷ 0 ∷ 0 ∷ []) 0 i (rw (length-map cs word) l)
    ∙ get_or-map word cs i d 0 l

abbrev pub view_of : Condition → ℕ
view_of c = c.view

pub clock_words_lem : (k : Clock) → length (clock_words k) ≡ clock_size
clock_words_lem k =
    let cs : List Condition = k.conditions in
    ap (λ (n : ℕ). suc (suc (suc n)))
    (length-append (four_words condition_word cs) (four_words view_of cs) ∙ omega (arith, four_words_lem condition_word cs, four_words_lem view_of cs))

-- word i of flow f, whatever stands after the clocks
pub word_at_lem : (ks : List Clock) (old : List ℕ) (f i : ℕ) → f < length ks → i < clock_size → get_or (clocks_words ks ++ old) (clock_size * f + i) 0 ≡ get_or (clock_words (clock_at ks f)) i 0
unfolding clocks_words
word_at_lem [] old f i l x = absurd (omega arith)
word_at_lem (k ∷ ks) old zero i l x =
    let e : i ≡ clock_size * 0 + i = omega arith in
    subst (λ (u : ℕ). get_or ((clock_words k ++ clocks_words ks) ++ old) u 0 ≡ get_or (clock_words k) i 0) e
    (rw (append_assoc (clock_words k) (clocks_words ks) old) (get_or-append (clock_words k) (clocks_words ks ++ old) 0 i (omega (arith, clock_words_lem k))))
word_at_lem (k ∷ ks) old (suc f) i l x =
    let e : length (clock_words k) + (clock_size * f + i) ≡ clock_size * suc f + i = omega (arith, clock_words_lem k) in
    subst (λ (u : ℕ). get_or ((clock_words k ++ clocks_words ks) ++ old) u 0 ≡ get_or (clock_words (clock_at ks f)) i 0) e
    (rw (append_assoc (clock_words k) (clocks_words ks) old) (get_or-append-add (clock_words k) (clocks_words ks ++ old) (clock_size * f + i) 0 ∙ word_at_lem ks old f i (omega arith) x))

-- the two words of condition number i
module _ (ks : List Clock) (old : List ℕ) (f i : ℕ) (d : Condition) (l : f < length ks) (x : i < length (clock_at ks f).conditions)
    (few : length (clock_at ks f).conditions ≤ max_conditions) where
  abbrev cs : List Condition
  cs = (clock_at ks f).conditions

  pub condition_at : get_or (clocks_words ks ++ old) (clock_size * f + (3 + i)) 0 ≡ condition_word (get_or cs i d)
  condition_at =
      word_at_lem ks old f (3 + i) l (omega arith)
      ∙ ap (λ (u : ℕ). get_or (clock_words (clock_at ks f)) u 0) (let three : 3 + i ≡ suc (suc (suc i)) = omega arith in three)
      ∙ get_or-append (four_words condition_word cs) (four_words view_of cs) 0 i (omega (arith, four_words_lem condition_word cs))
      ∙ four_at condition_word cs i d x few

  pub view_at : get_or (clocks_words ks ++ old) (clock_size * f + (7 + i)) 0 ≡ (get_or cs i d).view
  view_at =
      word_at_lem ks old f (7 + i) l (omega arith)
      ∙ ap (λ (u : ℕ). get_or (clock_words (clock_at ks f)) u 0)
      (let seven : 7 + i ≡ suc (suc (suc (length (four_words condition_word cs) + i))) = omega (arith, four_words_lem condition_word cs) in seven)
      ∙ get_or-append-add (four_words condition_word cs) (four_words view_of cs) i 0
      ∙ four_at view_of cs i d x few

-- Lines of words, step by step, and their lengths. Assumes nothing.
use mathlib.Core.Path.{◌≡◌, sym, ◌∙◌, ap, ap₂}
use Prim.Native.Nat.{ℕ, zero, suc, ◌+◌, ◌*◌, ◌-◌, ◌^◌, ◌≤◌, ◌<◌}
use native.Mathlib.Nat.{add-zero, suc-add}
use native.Mathlib.Omega.{arith}
use mathlib.Core.List.{List, [], ◌∷◌, ◌++◌, append-nil, append_assoc}
use lib.ListN.{length, get_or, drop, length-append}
use lib.Seq.{drop-drop, get_or-drop}
use Rattle.text.specs.Text.{line_feed, space, decimal}
use Rattle.text.proofs.Decimal.{digits_fit}
use Rattle.checker.specs.Rules.{max_conditions}
use Rattle.checker.specs.Answers.{clock_size}
use Rattle.lister.specs.Listing.{field, refusal_text, longest}
use Rattle.lister.specs.Private.Words.{word_text, words_text, clock_text, clocks_text}

-- the first condition, and the rest
words_front : (n : ℕ) (ws : List ℕ) → words_text (suc n) ws ≡ word_text (get_or ws 0 0) (get_or ws max_conditions 0) ++ words_text n (drop 1 ws)
unfolding words_text
words_front zero ws = sym (append-nil (word_text (get_or ws 0 0) (get_or ws max_conditions 0)))
words_front (suc n) ws =
    let first : List ℕ = word_text (get_or ws 0 0) (get_or ws max_conditions 0) in
    let a : 1 + n ≡ suc n = omega arith in
    let b : 1 + (n + max_conditions) ≡ suc n + max_conditions = omega arith in
    let last = ap₂ word_text (get_or-drop 1 ws n 0 ∙ ap (λ (k : ℕ). get_or ws k 0) a) (get_or-drop 1 ws (n + max_conditions) 0 ∙ ap (λ (k : ℕ). get_or ws k 0) b) in
    ap (λ (x : List ℕ). x ++ word_text (get_or ws (suc n) 0) (get_or ws (suc n + max_conditions) 0)) (words_front n ws)
    ∙ append_assoc first (words_text n (drop 1 ws)) (word_text (get_or ws (suc n) 0) (get_or ws (suc n + max_conditions) 0))
    ∙ ap (λ (x : List ℕ). first ++ (words_text n (drop 1 ws) ++ x)) (sym last)

words_suc : (m n : ℕ) (ws : List ℕ) → m ≡ suc n → words_text m ws ≡ word_text (get_or ws 0 0) (get_or ws max_conditions 0) ++ words_text n (drop 1 ws)
words_suc m n ws e = ap (λ (k : ℕ). words_text k ws) e ∙ words_front n ws

-- condition i of n
pub words_step : (n i from : ℕ) (ws : List ℕ) → i < n
    → words_text (n - i) (drop (from + i) ws)
    ≡ word_text (get_or ws (from + i) 0) (get_or ws (from + i + max_conditions) 0) ++ words_text (n - (i + 1)) (drop (from + (i + 1)) ws)
words_step n i from ws l =
    let e : from + i + 1 ≡ from + (i + 1) = omega arith in
    words_suc (n - i) (n - (i + 1)) (drop (from + i) ws) (omega arith)
    ∙ ap₂ (λ (x y : List ℕ). x ++ words_text (n - (i + 1)) y)
    (ap₂ word_text (get_or-drop (from + i) ws 0 0 ∙ ap (λ (k : ℕ). get_or ws k 0) (add-zero (from + i))) (get_or-drop (from + i) ws max_conditions 0))
    (drop-drop 1 (from + i) ws ∙ ap (λ (k : ℕ). drop k ws) e)

-- a line more
pub clocks_more : (n f : ℕ) (ws : List ℕ) → clocks_text (n + 1) f ws ≡ clocks_text n f ws ++ clock_text (f + n) (drop (clock_size * n) ws)
unfolding clocks_text
clocks_more zero f ws = rw (add-zero f) (append-nil (clock_text f ws))
clocks_more (suc n) f ws =
    let e : clock_size + clock_size * n ≡ clock_size * suc n = omega arith in
    let g : suc f + n ≡ f + suc n = omega arith in
    rw (suc-add n 1, ← g, ← e, ← drop-drop (clock_size * n) clock_size ws)
    (ap (λ (x : List ℕ). clock_text f ws ++ x) (clocks_more n (suc f) (drop clock_size ws))
    ∙ sym (append_assoc (clock_text f ws) (clocks_text n (suc f) (drop clock_size ws)) (clock_text (suc f + n) (drop (clock_size * n) (drop clock_size ws)))))

-- a refusal's line is short
pub refusal_short : (n f : ℕ) → n < 2 ^ 32 → f < 2 ^ 32 → length (refusal_text n f) ≤ longest
unfolding refusal_text
refusal_short n f p q =
    omega (
      arith,
      digits_fit 9 n (omega arith),
      digits_fit 9 f (omega arith),
      length-append (field n) (decimal f ++ (line_feed ∷ [])),
      length-append (decimal n) (space ∷ []),
      length-append (decimal f) (line_feed ∷ []),
    )

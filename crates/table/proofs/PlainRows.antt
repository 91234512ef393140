-- Rows as words and words as rows: each gives the other back. Rows made flow by flow, and laid down one after the other. Assumes nothing.
use mathlib.Core.Path.{◌≡◌, refl, sym, ◌∙◌, ap, ap₂}
use Prim.Native.Nat.{ℕ, zero, suc, ◌+◌, ◌*◌, ◌≤◌, ◌<◌}
use native.Mathlib.Decide.{dec_lt}
use native.Mathlib.Numerals.{add-one}
use native.Mathlib.Omega.{arith}
use mathlib.Core.List.{List, [], ◌∷◌, ◌++◌, append_assoc}
use lib.ListN.{length, get_or, take, drop, set, length-append, get_or-append}
use lib.Seq.{get_or_at, take_at, drop_at, drop-drop}
use borrow.Author.Tests.{le-leb}
use Rattle.table.specs.Answers.{over}
use Rattle.table.specs.Rows.{Words, row_size}
use Rattle.table.specs.Plain.{split, row_words, plain_row, joined, per_flow, put_row}
use Rattle.table.proofs.AnswerLaws.{set_over}

pub length_split : (n : ℕ) (words : List ℕ) → length (split n words) ≡ n
unfolding split
length_split zero words = refl
length_split (suc n) words = ap suc (length_split n (drop row_size words))

pub length_joined : (ws : List Words) → length (joined ws) ≡ row_size * length ws
unfolding joined
length_joined [] = refl
length_joined (w ∷ ws) = omega (arith, length_joined ws)

pub split_joined : (ws : List Words) → split (length ws) (joined ws) ≡ ws
unfolding split joined
split_joined [] = refl
split_joined (w ∷ ws) = ap (λ (l : List Words). w ∷ l) (split_joined ws)

pub joined_split : (n : ℕ) (words : List ℕ) → length words ≡ row_size * n → joined (split n words) ≡ words
unfolding split joined
joined_split zero [] h = refl
joined_split zero (a ∷ l) h = absurd (omega arith)
joined_split (suc n) [] h = absurd (omega arith)
joined_split (suc n) (a ∷ []) h = absurd (omega arith)
joined_split (suc n) (a ∷ b ∷ []) h = absurd (omega arith)
joined_split (suc n) (a ∷ b ∷ c ∷ []) h = absurd (omega arith)
joined_split (suc n) (a ∷ b ∷ c ∷ d ∷ l) h = ap (λ (t : List ℕ). a ∷ b ∷ c ∷ d ∷ t) (joined_split n l (omega arith))

-- one row more
pub joined_next : (ws : List Words) (w : Words) → joined (ws ++ (w ∷ [])) ≡ joined ws ++ plain_row w
unfolding joined
joined_next [] w = refl
joined_next (v ∷ ws) w = rw (joined_next ws w)

-- row f among the words of rows
pub joined_row : (ws : List Words) (f : ℕ) (d : Words) → f < length ws → row_words (joined ws) f ≡ get_or ws f d
unfolding joined
joined_row [] f d l = absurd (omega arith)
joined_row (w ∷ ws) zero d l = refl
joined_row (w ∷ ws) (suc f) d l =
    let e : row_size * suc f ≡ suc (suc (suc (suc (row_size * f)))) = omega arith in
    rw e (joined_row ws f d (omega arith))

-- what was made of each flow
module _ {A : Type 0} (make : ℕ → A) where
  pub per_length : (n : ℕ) → length (per_flow make n) ≡ n
  unfolding per_flow
  per_length zero = refl
  per_length (suc n) = omega (arith, length-append (per_flow make n) (make n ∷ []), per_length n)

  pub per_entry : (d : A) (n f : ℕ) → f < n → get_or (per_flow make n) f d ≡ make f
  unfolding per_flow
  per_entry d zero f l = absurd (omega arith)
  per_entry d (suc n) f l =
      elim (dec_lt f n) [
        | yes x ↦ get_or-append (per_flow make n) (make n ∷ []) d f (omega (arith, per_length n)) ∙ per_entry d n f x
        | no x ↦ (let e : n ≡ f = omega arith in get_or_at (per_flow make n) (make n) [] d f (per_length n ∙ e) ∙ ap make e)
      ]

-- in a buffer that it was written into, flow by flow
module _ (make : ℕ → ℕ) (old : List ℕ) where
  pub per_over : (n f : ℕ) → f < n → get_or (over (per_flow make n) old) f 0 ≡ make f
  per_over n f l = get_or-append (per_flow make n) (drop (length (per_flow make n)) old) 0 f (omega (arith, per_length make n)) ∙ per_entry make 0 n f l

  pub per_next : (f v : ℕ) → f < length old → v ≡ make f → set (over (per_flow make f) old) f v ≡ over (per_flow make (f + 1)) old
  unfolding per_flow
  per_next f v l e = rw (add-one f, e) (set_over (per_flow make f) old f (make f) (per_length make f) l)

pub per_same : {A : Type 0} (make make' : ℕ → A) (n : ℕ) → ((f : ℕ) → f < n → make f ≡ make' f) → per_flow make n ≡ per_flow make' n
unfolding per_flow
per_same make make' zero h = refl
per_same {A} make make' (suc n) h = ap₂ (λ (l : List A) (a : A). l ++ (a ∷ [])) (per_same make make' n (λ f l. h f (omega arith))) (h n (omega arith))

-- a row more in a buffer, behind those that stand there
over_row : (xs ys old : List ℕ) (i : ℕ) → length xs ≡ i → length ys ≡ row_size → take i (over xs old) ++ (ys ++ drop (i + row_size) (over xs old)) ≡ over (xs ++ ys) old
over_row xs ys old i n m =
    let a : take i (over xs old) ≡ xs = take_at xs (drop (length xs) old) i n in
    let d : drop i (over xs old) ≡ drop (length xs) old = drop_at xs (drop (length xs) old) i n in
    let k : length xs + row_size ≡ length (xs ++ ys) = omega (arith, length-append xs ys) in
    let b : drop (i + row_size) (over xs old) ≡ drop (length (xs ++ ys)) old =
    sym (drop-drop row_size i (over xs old)) ∙ ap (drop row_size) d ∙ drop-drop row_size (length xs) old ∙ ap (λ (j : ℕ). drop j old) k in
    ap₂ (λ (x y : List ℕ). x ++ (ys ++ y)) a b ∙ sym (append_assoc xs ys (drop (length (xs ++ ys)) old))

pub put_next : (ws : List Words) (w : Words) (old new : List ℕ) (at : ℕ) → length ws ≡ at → new ≡ over (joined ws) old → row_size * at + row_size ≤ length new
    → put_row at w new ≡ over (joined (ws ++ (w ∷ []))) old
put_next ws w old new at n e room =
    rw (le-leb (row_size * at + row_size) (length new) room)
    (ap (λ (l : List ℕ). take (row_size * at) l ++ (plain_row w ++ drop (row_size * at + row_size) l)) e
    ∙ over_row (joined ws) (plain_row w) old (row_size * at) (length_joined ws ∙ ap (λ (i : ℕ). row_size * i) n) refl
    ∙ ap (λ (l : List ℕ). over l old) (sym (joined_next ws w)))

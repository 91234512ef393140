-- Bytes written into a text one piece after the other. Assumes nothing.
use mathlib.Core.Path.{◌≡◌, refl, sym, ◌∙◌, ap, ap₂}
use Prim.Native.Nat.{ℕ, zero, suc, ◌+◌, ◌-◌, ◌≤◌, ◌<◌}
use native.Mathlib.Nat.{zero-add, add-zero, sub-zero, zero-sub, suc-sub-suc, sub-eq-zero_of_le}
use native.Mathlib.Numerals.{add-one}
use native.Mathlib.Omega.{arith}
use mathlib.Core.Bool.{Bool, true, false}
use mathlib.Core.List.{List, [], ◌∷◌, ◌++◌, append_assoc}
use lib.ListN.{length, take, drop, set, length-append, length-take, length-drop, take-append-drop}
use lib.Seq.{set_split, length-take-le, take_all, take-nil, take_at, drop-append-add, drop-drop}
use lib.Dec.{leb}
use borrow.Author.Tests.{leb-true, leb-false}
use Rattle.text.specs.Text.{fitting, laid, Wrote}
use Rattle.text.specs.declared.Writer.{Writer}
use Rattle.text.specs.Writers.{Writes}

-- ---- laid bytes

laid_length : (at : ℕ) (xs old : List ℕ) → at + length xs ≤ length old → length (laid at xs old) ≡ length old
laid_length at xs old h =
    length-append (take at old) (xs ++ drop (at + length xs) old)
    ∙ omega (arith, length-append xs (drop (at + length xs) old), length-take-le at old (omega arith), length-drop (at + length xs) old)

laid_none : (at : ℕ) (old : List ℕ) → old ≡ laid at [] old
laid_none at old = rw (add-zero at) (sym (take-append-drop at old))

-- a piece after a piece
laid_more : (at : ℕ) (xs ys old : List ℕ) → at + length xs ≤ length old → laid (at + length xs) ys (laid at xs old) ≡ laid at (xs ++ ys) old
laid_more at xs ys old h =
    let n : ℕ = at + length xs in
    let p : List ℕ = take at old ++ xs in
    let r : List ℕ = drop n old in
    let e : laid at xs old ≡ p ++ r = sym (append_assoc (take at old) xs r) in
    let l : length p ≡ n = length-append (take at old) xs ∙ ap (λ (i : ℕ). i + length xs) (length-take-le at old (omega arith)) in
    let front : take n (laid at xs old) ≡ p = ap (take n) e ∙ take_at p r n l in
    let back : drop (n + length ys) (laid at xs old) ≡ drop (n + length ys) old =
    ap₂ (λ (i : ℕ) (w : List ℕ). drop (i + length ys) w) (sym l) e ∙ drop-append-add p r (length ys) ∙ drop-drop (length ys) n old in
    let whole : n + length ys ≡ at + length (xs ++ ys) = omega (arith, length-append xs ys) in
    ap₂ (λ (a b : List ℕ). a ++ (ys ++ b)) front (back ∙ ap (λ (i : ℕ). drop i old) whole)
    ∙ append_assoc (take at old) xs (ys ++ drop (at + length (xs ++ ys)) old)
    ∙ ap (λ (w : List ℕ). take at old ++ w) (sym (append_assoc xs ys (drop (at + length (xs ++ ys)) old)))

-- ---- written bytes

take_append : (n : ℕ) (xs ys : List ℕ) → take n (xs ++ ys) ≡ take n xs ++ take (n - length xs) ys
take_append n [] ys = rw (take-nil n, sub-zero n)
take_append zero (x ∷ xs) ys = rw (zero-sub (suc (length xs)))
take_append (suc n) (x ∷ xs) ys = rw (suc-sub-suc n (length xs)) (ap (λ (l : List ℕ). x ∷ l) (take_append n xs ys))

-- bytes of which none has room
module _ {at : ℕ} {bytes old : List ℕ} (e : fitting at bytes old ≡ []) where
  kept : Wrote at bytes old at old
  kept = record { place = rw e (sym (add-zero at)); text = rw e (laid_none at old) }

  as_it_was : {next : ℕ} {new : List ℕ} → Wrote at bytes old next new → (next ≡ at) × (new ≡ old)
  as_it_was w = (w.place ∙ sym kept.place, w.text ∙ sym kept.text)

pub nothing : (at : ℕ) (old : List ℕ) → Wrote at [] old at old
nothing at old = kept (take-nil (length old - at))

past : (at : ℕ) (bytes old : List ℕ) → length old ≤ at → fitting at bytes old ≡ []
past at bytes old h = rw (sub-eq-zero_of_le h)

pub full : (at : ℕ) (bytes old : List ℕ) → length old ≤ at → Wrote at bytes old at old
full at bytes old h = kept (past at bytes old h)

-- bytes that all have room
all_fit : (at : ℕ) (bytes old : List ℕ) → at + length bytes ≤ length old → fitting at bytes old ≡ bytes
all_fit at bytes old h = take_all (length old - at) bytes (omega arith)

whole : {at next : ℕ} {bytes old new : List ℕ} → at + length bytes ≤ length old → Wrote at bytes old next new
    → (next ≡ at + length bytes) × (new ≡ laid at bytes old)
whole {at} {next} {bytes} {old} {new} h w =
    let e : fitting at bytes old ≡ bytes = all_fit at bytes old h in
    (rw e at w.place, rw e at w.text)

-- the same from the first place on
pub whole_text : {next : ℕ} {bytes old new : List ℕ} → length bytes ≤ length old → Wrote 0 bytes old next new
    → (next ≡ length bytes) × (new ≡ bytes ++ drop (length bytes) old)
whole_text {next} {bytes} {old} {new} h w =
    let z : 0 + length bytes ≡ length bytes = zero-add (length bytes) in
    let v = whole (omega arith) w in
    (v.0 ∙ z, v.1 ∙ ap (λ (i : ℕ). bytes ++ drop i old) z)

-- the answer is no further than all the bytes would take it
pub no_further : {at next : ℕ} {bytes old new : List ℕ} → Wrote at bytes old next new → next ≤ at + length bytes
no_further {at} {next} {bytes} {old} w = omega (arith, w.place, length-take (length old - at) bytes)

pub one : (at byte : ℕ) (old : List ℕ) → at < length old → Wrote at (byte ∷ []) old (at + 1) (set old at byte)
one at byte old h =
    let e : fitting at (byte ∷ []) old ≡ byte ∷ [] = all_fit at (byte ∷ []) old (omega arith) in
    record { place = rw e; text = rw (e, add-one at) (set_split old at byte h) }

-- a piece after a piece
pub both : {at next next' : ℕ} {xs ys old mid new : List ℕ} → Wrote at xs old next mid → Wrote next ys mid next' new → Wrote at (xs ++ ys) old next' new
both {at} {next} {next'} {xs} {ys} {old} {mid} {new} w v = go (leb at (length old)) refl
  where
    go : (b : Bool) → leb at (length old) ≡ b → Wrote at (xs ++ ys) old next' new
    go true t =
        let k : ℕ = length old - at in
        let f : List ℕ = fitting at xs old in
        let g : List ℕ = fitting next ys mid in
        let inside : at ≤ length old = leb-true at (length old) t in
        let room : at + length f ≤ length old = omega (arith, length-take k xs) in
        let size : length mid ≡ length old = ap length w.text ∙ laid_length at f old room in
        let left : length mid - next ≡ k - length xs = omega (arith, w.place, length-take k xs) in
        let cut : f ++ g ≡ fitting at (xs ++ ys) old = ap (λ (i : ℕ). f ++ take i ys) left ∙ sym (take_append k xs ys) in
        record {
          place = omega (arith, v.place, w.place, length-append f g, ap length cut);
          text = v.text ∙ ap₂ (λ (i : ℕ) (l : List ℕ). laid i g l) w.place w.text ∙ laid_more at f g old room ∙ ap (λ (l : List ℕ). laid at l old) cut;
        }
    go false t =
        let h : length old ≤ at = omega (arith, leb-false at (length old) t) in
        let x = as_it_was (past at xs old h) w in
        let y = as_it_was (past next ys mid (omega (arith, x.0, ap length x.1))) v in
        rw (y.0, y.1, x.0, x.1) (full at (xs ++ ys) old h)

-- ---- by a writer

pub joined : {xs ys : List ℕ} {a b c : Writer} → Writes xs a b → Writes ys b c → Writes (xs ++ ys) a c
joined p q = record { same_text = q.same_text ∙ p.same_text; wrote = both p.wrote q.wrote }

-- by a writer that began a text
pub begun : {bytes old : List ℕ} {a b : Writer} → a.at ≡ 0 → a.text.now ≡ old → Writes bytes a b → Wrote 0 bytes old b.at b.text.now
begun e f w = rw (← e, ← f) w.wrote

pub none : (a : Writer) → Writes [] a a
none a = record { same_text = refl; wrote = nothing a.at a.text.now }

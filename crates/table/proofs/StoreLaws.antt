-- Reading the rows of a packed table: what is stored and what is left make the whole. Assumes nothing.
use mathlib.Core.Path.{◌≡◌, refl, sym, ap, ◌∙◌}
use mathlib.Core.Bool.{Bool, true, false}
use mathlib.Core.List.{List, [], ◌∷◌, ◌++◌, append_assoc, append-nil}
use Prim.Native.Nat.{ℕ, suc, ◌+◌, ◌-◌, ◌*◌, ◌<◌, ◌≤◌}
use native.Mathlib.Nat.{sub-zero}
use native.Mathlib.Numerals.{add-one}
use native.Mathlib.Omega.{arith}
use lib.Dec.{eqb}
use lib.ListN.{length, take, drop, set, length-append}
use lib.Seq.{take_at, sets-eq, length-take-le}
use borrow.Author.Tests.{eqb-true}
use Rattle.table.specs.declared.Cursor.{Cursor}
use Rattle.table.specs.declared.Record.{Record}
use Rattle.table.specs.declared.refusal.Refused.{Refused}
use Rattle.table.specs.declared.refusal.Refusal.{Refusal}
use Rattle.table.specs.declared.refusal.Refusal.TheVariants.{BadFilling}
use Rattle.table.specs.Answers.{Result, good, refused, named, number, unless, then}
use Rattle.table.specs.Rows.{Row, Words, row_of, row_size}
use Rattle.table.specs.Plain.{joined, plain_row, words_of}
use Rattle.table.specs.Packed.{TakenRow, take_row, take_rows, filling, count_width}
use Rattle.table.specs.Places.{last_place}
use Rattle.table.specs.Private.Codes.{verdict}
use Rattle.table.specs.Private.Steps.{Found, Ended, Stop}
use Rattle.table.proofs.AnswerLaws.{no_zero, number_inj}
use Rattle.table.proofs.PlainRows.{joined_next}
use Rattle.table.proofs.Records.{Outcome, fine, stopped, row_outcome}

-- four words that are set one after the other
pub four_set : (words : List ℕ) (i : ℕ) (r : Record) → i + row_size ≤ length words
    → set (set (set (set words i r.kind) (i + 1) r.one) (i + 2) r.two) (i + 3) r.three ≡ take i words ++ (plain_row (words_of r) ++ drop (i + row_size) words)
four_set words i r h =
    let e1 : i + 1 ≡ suc i = omega arith in
    let e2 : i + 2 ≡ suc (suc i) = omega arith in
    let e3 : i + 3 ≡ suc (suc (suc i)) = omega arith in
    rw (e1, e2, e3) (sets-eq (plain_row (words_of r)) words i h ∙ append_assoc (take i words) (plain_row (words_of r)) (drop (i + row_size) words))

-- what is left of a table comes behind the rows so far
abbrev behind : List Words → Result (List Words) → Result (List Words)
behind rows r = then r λ ws. good (rows ++ ws)

behind_none : (r : Result (List Words)) → r ≡ behind [] r
behind_none (good ws) = refl
behind_none (refused why f) = refl

behind_next : (rows : List Words) (w : Words) (r : Result (List Words)) → behind rows (behind (w ∷ []) r) ≡ behind (rows ++ (w ∷ [])) r
behind_next rows w (good ws) = ap good (sym (append_assoc rows (w ∷ []) ws))
behind_next rows w (refused why f) = refl

behind_last : (rows : List Words) (b : Bool) → behind rows (unless b BadFilling 0 (good [])) ≡ unless b BadFilling 0 (good rows)
behind_last rows true = ap good (append-nil rows)
behind_last rows false = refl

-- the first rows are stored, and those from row on are still to be taken
pub record Unpacking (bs : List Bool) (m row at : ℕ) (words : List ℕ) : Type 0 where
  pub rows : List Words
  pub stored : take (row_size * row) words ≡ joined rows
  pub left : take_rows m m 0 (drop count_width bs) ≡ behind rows (take_rows m (m - row) row (drop at bs))

pub unpacking_starts : (bs : List Bool) (m : ℕ) (words : List ℕ) → Unpacking bs m 0 count_width words
unfolding joined
unpacking_starts bs m words = record { rows = []; stored = refl; left = rw sub-zero (behind_none (take_rows m m 0 (drop count_width bs))) }

module _ (bs : List Bool) (m row at : ℕ) (words : List ℕ) (u : Unpacking bs m row at words) where
  pub unpacking_ends : (p : Cursor) → p.at ≡ at → row ≡ m → at ≤ last_place → at ≤ length bs → Ended bs m words p
  unfolding take_rows
  unpacking_ends p q e near inside =
      let z : m - row ≡ 0 = omega arith in
      record {
        rows = u.rows;
        stored = rw (← e) u.stored;
        left = rw q (u.left ∙ rw z (behind_last u.rows (filling (drop at bs))));
        near = omega arith;
        within = omega arith;
      }

  module _ (below : row < m) where
    more : m - row ≡ suc (m - (row + 1))
    more = omega arith

    pub unpacking_stops : (e : Refused) → e ≡ named e.why row → ((m f : ℕ) → take_row m f (drop at bs) ≡ refused e.why f) → Stop (take_rows m m 0 (drop count_width bs)) e
    unfolding take_rows
    unpacking_stops e is d =
        let at_row : row ≡ e.flow = sym (ap (λ (x : Refused). x.flow) is) in
        record { is = is ∙ ap (named e.why) at_row; comes = u.left ∙ rw (more, d m row) (ap (refused e.why) at_row) }

    -- the next row, and those after it
    module _ (r : Record) (p : Cursor) (found : Found bs at r p) where
      later : Result (List Words)
      later = take_rows m (m - (row + 1)) (row + 1) (drop p.at bs)

      next : take_rows m (m - row) row (drop at bs) ≡ then (row_of m row (words_of r)) λ x. behind (words_of r ∷ []) later
      unfolding take_rows later
      next = rw (more, found.taken m row, add-one row) (go (row_of m row (words_of r)))
        where
          go : (x : Result Row)
              → then {B = List Words} (then {B = TakenRow} x λ y. good (record { words = words_of r; rest = drop p.at bs }))
              (λ t. then (take_rows m (m - suc row) (suc row) t.rest) λ ws. good (t.words ∷ ws))
              ≡ then x λ y. behind (words_of r ∷ []) (take_rows m (m - suc row) (suc row) (drop p.at bs))
          go (good y) = refl
          go (refused why f) = refl

      pub unpacking_refused : (why : Refusal) → eqb (verdict (row_of m row (words_of r))) 0 ≡ false → number why ≡ verdict (row_of m row (words_of r))
          → Stop (take_rows m m 0 (drop count_width bs)) (named why row)
      unpacking_refused why f e = go (row_of m row (words_of r)) (row_outcome m row (words_of r)) refl f e
        where
          go : (x : Result Row) → Outcome row x → row_of m row (words_of r) ≡ x → eqb (verdict x) 0 ≡ false → number why ≡ verdict x
              → Stop (take_rows m m 0 (drop count_width bs)) (named why row)
          go x (fine y) q f e = absurd (let z : ◌≡◌ {A = ℕ} 0 1 = cc in omega arith)
          go x (stopped other) q f e = record { is = refl; comes = u.left ∙ rw (next, q, number_inj why other e) }

      pub unpacking_goes : (new : List ℕ) → eqb (verdict (row_of m row (words_of r))) 0 ≡ true → row_size * m ≤ length words
          → new ≡ take (row_size * row) words ++ (plain_row (words_of r) ++ drop (row_size * row + row_size) words) → Unpacking bs m (row + 1) p.at new
      unfolding joined later
      unpacking_goes new t fits e =
          let i : ℕ = row_size * row in
          let j : row_size * (row + 1) ≡ i + row_size = omega arith in
          let head : List ℕ = take i words ++ plain_row (words_of r) in
          let len : length head ≡ i + row_size = length-append (take i words) (plain_row (words_of r)) ∙ ap (λ (k : ℕ). k + row_size) (length-take-le i words (omega arith)) in
          let e' : new ≡ head ++ drop (i + row_size) words = e ∙ sym (append_assoc (take i words) (plain_row (words_of r)) (drop (i + row_size) words)) in
          record {
            rows = u.rows ++ (words_of r ∷ []);
            stored =
                ap (λ (k : ℕ). take k new) j ∙ ap (take (i + row_size)) e' ∙ take_at head (drop (i + row_size) words) (i + row_size) len
                ∙ ap (λ (l : List ℕ). l ++ plain_row (words_of r)) u.stored ∙ sym (joined_next u.rows (words_of r));
            left = u.left ∙ ap (behind u.rows) (next ∙ go (row_of m row (words_of r)) (row_outcome m row (words_of r)) (eqb-true _ _ t)) ∙ behind_next u.rows (words_of r) later;
          }
        where
          go : (x : Result Row) → Outcome row x → verdict x ≡ 0 → (then x λ y. behind (words_of r ∷ []) later) ≡ behind (words_of r ∷ []) later
          go x (fine y) e = refl
          go x (stopped why) e = absurd (no_zero why e)

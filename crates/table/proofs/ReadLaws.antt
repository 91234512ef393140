-- Reading the packed form: the filling, the whole, and what is answered and stored. Assumes nothing.
use mathlib.Core.Path.{◌≡◌, refl, sym, ap, ◌∙◌}
use mathlib.Core.Bool.{Bool, true, false}
use mathlib.Core.List.{List, [], ◌∷◌}
use Prim.Native.Nat.{ℕ, zero, suc, ◌+◌, ◌-◌, ◌*◌, ◌/◌, ◌<◌, ◌≤◌}
use native.Mathlib.Omega.{arith}
use lib.Dec.{leb, eqb}
use lib.ListN.{length, take, drop, length-drop}
use lib.Seq.{take_all, length-take-le}
use borrow.Author.Tests.{le-leb, lt-leb, leb-true, lt-ltb, le-ltb}
use Rattle.table.specs.declared.Cursor.{Cursor}
use Rattle.std.specs.Prelude.{Option, Some, None, Err, ok_or}
use Rattle.table.specs.declared.refusal.Refused.{Refused}
use Rattle.table.specs.declared.refusal.Refusal.TheVariants.{CutShort, BadCount, BadFilling, NoRoom}
use Rattle.table.specs.Answers.{good, success, over, refusal, named, parts}
use Rattle.table.specs.Rows.{Words, max_flows, row_size}
use Rattle.table.specs.Plain.{joined, count_fits, copied}
use Rattle.table.specs.Bits.{bits, from_bits}
use Rattle.table.specs.Packed.{take_field, take_row, take_rows, filling, unpacked, reading, read_answer, words_after, count_width}
use Rattle.table.specs.Places.{take_at_bit, last_place, taking_parts}
use Rattle.table.specs.Private.Laid.{whole}
use Rattle.table.specs.Private.Steps.{Ended, Stop, Whole}
use Rattle.table.proofs.Tests.{and_left, and_right, good_inj, unless_good, then_good}
use Rattle.table.proofs.BitLaws.{length_bits}
use Rattle.table.proofs.Windows.{Had, had, too_short, not_short}

-- ---- the filling

-- bytes are left over
pub not_ended : (s : List ℕ) (at : ℕ) → at ≤ length (bits s) → (at + 7) / 8 < length s → false ≡ filling (drop at (bits s))
not_ended s at i h =
    let l : 8 ≤ length (drop at (bits s)) = omega (arith, length-drop at (bits s), length_bits s) in
    rw (le-ltb (length (drop at (bits s))) 8 l)

module _ (s : List ℕ) (at w : ℕ) (near : at ≤ last_place) (inside : at ≤ length (bits s)) (last : length s ≤ (at + 7) / 8) (is : w ≡ whole at - at) where
  few : w ≡ length (drop at (bits s))
  few = omega (arith, length-drop at (bits s), length_bits s)

  pub fill_there : take_at_bit (bits s) at w ≡ taking_parts None → ⊥
  fill_there e = not_short (bits s) at w near (omega arith) (omega (arith, length_bits s)) e

  -- what is left is below eight bits, and all of it was taken
  pub ended : (x : ℕ) (p : Cursor) → take_at_bit (bits s) at w ≡ taking_parts (Some (x, p)) → eqb x 0 ≡ filling (drop at (bits s))
  ended x p e =
      let h : Had (bits s) at w x p = had (bits s) at w x p e in
      let l : length (drop at (bits s)) < 8 = omega (arith, few) in
      let a : take w (drop at (bits s)) ≡ drop at (bits s) = take_all w (drop at (bits s)) (omega (arith, few)) in
      rw (lt-ltb (length (drop at (bits s))) 8 l, ← h.number, a)

-- ---- the whole

-- no value is the error that is given for it
pub none_is : {A E : Type 0} (r : Option A) (e other : E) → Err e ≡ ok_or r other → r ≡ None → e ≡ other
none_is None e other p q = cc
none_is (Some x) e other p q = cc

rows_size : (m n f : ℕ) (bs : List Bool) (ws : List Words) → take_rows m n f bs ≡ good ws → length ws ≡ n
unfolding take_rows
rows_size m zero f bs ws e = ap length (sym (good_inj (unless_good (filling bs) BadFilling 0 (good []) ws e).1))
rows_size m (suc n) f bs ws e =
    let a = then_good (take_row m f bs) _ ws e in
    let b = then_good (take_rows m n (suc f) a.0.rest) (λ vs. good (a.0.words ∷ vs)) ws a.2 in
    ap length (sym (good_inj b.2)) ∙ ap suc (rows_size m n (suc f) a.0.rest b.0 b.1)

module _ (s : List ℕ) where
  pub no_count : take_at_bit (bits s) 0 count_width ≡ taking_parts None → Stop (unpacked s) (named CutShort 0)
  unfolding unpacked
  no_count e = record { is = refl; comes = rw (too_short (bits s) 0 count_width (omega arith) (omega arith) (omega arith) e 0) }

  module _ (m : ℕ) (p : Cursor) (count : take_at_bit (bits s) 0 count_width ≡ taking_parts (Some (m, p))) where
    h : Had (bits s) 0 count_width m p
    h = had (bits s) 0 count_width m p count

    pub count_there : count_width ≤ length (bits s)
    count_there = omega (arith, h.within)

    pub bad_count_lem : count_fits m ≡ false → Stop (unpacked s) (named BadCount 0)
    unfolding unpacked
    bad_count_lem e = record { is = refl; comes = rw (h.field 0, e) }

    -- the count was taken, and a table may have as many flows
    module _ (fits : count_fits m ≡ true) where
      pub count_few : m ≤ max_flows
      count_few = leb-true m max_flows (and_right (leb 1 m) _ fits)

      counted : unpacked s ≡ take_rows m m 0 (drop count_width (bits s))
      unfolding unpacked
      counted = let e : p.at ≡ count_width = omega (arith, h.past) in rw (h.field 0, fits, e)

      pub scan_stopped : (e : Refused) → Stop (take_rows m m 0 (drop count_width (bits s))) e → Stop (unpacked s) e
      scan_stopped e d = record { is = d.is; comes = counted ∙ d.comes }

      -- the rows were taken
      module _ (words : List ℕ) (q : Cursor) (d : Ended (bits s) m words q) where
        pub filled : filling (drop q.at (bits s)) ≡ true → Whole (unpacked s) words m
        filled e =
            let all : take_rows m m 0 (drop count_width (bits s)) ≡ good d.rows = d.left ∙ rw e in
            record { rows = d.rows; is = counted ∙ all; size = rows_size m m 0 (drop count_width (bits s)) d.rows all; stored = d.stored }

        pub not_filled : filling (drop q.at (bits s)) ≡ false → Stop (unpacked s) (named BadFilling 0)
        not_filled e = record { is = refl; comes = counted ∙ d.left ∙ rw e }

-- What a table that is not refused has.
pub record Opened (s : List ℕ) (ws : List Words) : Type 0 where
  pub some_flow : 1 ≤ length ws
  pub few : length ws ≤ max_flows
  pub count : take_field 0 count_width (bits s) ≡ good (record { field = length ws; rest = drop count_width (bits s) })
  pub rows : take_rows (length ws) (length ws) 0 (drop count_width (bits s)) ≡ good ws
  pub within : count_width ≤ length (bits s)

opened_at : (s : List ℕ) (ws : List Words) (n : ℕ) (rest : List Bool) → from_bits (take count_width (bits s)) ≡ n → drop count_width (bits s) ≡ rest
    → leb count_width (length (bits s)) ≡ true → count_fits n ≡ true → take_rows n n 0 rest ≡ good ws → Opened s ws
unfolding take_field
opened_at s ws n rest en er there fits rows =
    let l : length ws ≡ n = rows_size n n 0 rest ws rows in
    record {
      some_flow = omega (arith, l, leb-true 1 n (and_left (leb 1 n) _ fits));
      few = omega (arith, l, leb-true n max_flows (and_right (leb 1 n) _ fits));
      count = rw (there, en, l);
      rows = rw (l, er) rows;
      within = leb-true count_width (length (bits s)) there;
    }

pub opened : (s : List ℕ) (ws : List Words) → unpacked s ≡ good ws → Opened s ws
unfolding unpacked take_field
opened s ws e =
    let bs = bits s in
    let a = then_good (take_field 0 count_width bs) _ ws e in
    let t = unless_good (leb count_width (length bs)) CutShort 0 _ a.0 a.1 in
    let b : (count_fits a.0.field ≡ true) × (take_rows a.0.field a.0.field 0 a.0.rest ≡ good ws) = unless_good (count_fits a.0.field) BadCount 0 _ ws a.2 in
    opened_at s ws a.0.field a.0.rest (ap (λ x. x.field) (good_inj t.1)) (ap (λ x. x.rest) (good_inj t.1)) t.0 b.0 b.1

-- ---- the answer

-- a refusal leaves the words
pub read_refused : (s old : List ℕ) (e : Refused) → Stop (unpacked s) e → (parts (Err e) ≡ read_answer s (length old)) × (old ≡ words_after s old)
unfolding reading
read_refused s old e d = rw d.comes (ap (λ (x : Refused). parts (Err x)) d.is, refl)

module _ (s words : List ℕ) (m : ℕ) (w : Whole (unpacked s) words m) where
  pub whole_few : m ≤ max_flows
  whole_few = omega (arith, w.size, (opened s w.rows w.is).few)

  -- too few words
  pub read_full : (old : List ℕ) → length old < row_size * m → (refusal NoRoom 0 ≡ read_answer s (length old)) × (old ≡ words_after s old)
  unfolding reading
  read_full old h = rw (w.is, w.size, lt-leb (row_size * m) (length old) h) (refl, refl)

  -- room for all words
  pub read_done : (old new : List ℕ) → row_size * m ≤ length words → row_size * m ≤ length old → new ≡ copied (row_size * m) words old
      → (success m ≡ read_answer s (length old)) × (new ≡ words_after s old)
  unfolding reading
  read_done old new there room e =
      let n : length (joined w.rows) ≡ row_size * m = ap length (sym w.stored) ∙ length-take-le (row_size * m) words there in
      let c : new ≡ over (joined w.rows) old =
      e ∙ rw (le-leb (row_size * m) (length words) there, le-leb (row_size * m) (length old) room, w.stored, n) in
      rw (w.is, w.size, le-leb (row_size * m) (length old) room) (ap success (sym w.size), c)

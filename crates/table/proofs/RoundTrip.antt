-- Plain form and packed form determine each other: what was written is read back, and what was read is written back. Assumes nothing.
use mathlib.Core.Path.{◌≡◌, refl, sym, ap, ◌∙◌, subst}
use mathlib.Core.Bool.{Bool, true, false, ◌&&◌}
use mathlib.Core.List.{List, [], ◌∷◌, ◌++◌, append_assoc}
use Prim.Native.Nat.{ℕ, zero, suc, ◌-◌, ◌*◌, ◌^◌, ◌<◌, ◌≤◌}
use native.Mathlib.Omega.{arith}
use lib.Dec.{leb, ltb, eqb}
use lib.Pow.{pow_pos}
use mathlib.Core.Option.{some}
use lib.ListN.{length, get_or, take, drop, replicate, length-append, length-replicate, take-append-drop, get_elem?}
use lib.Seq.{take_at, drop_at, length-take-le}
use borrow.Author.Tests.{le-leb, leb-true, lt-ltb, ltb-true, eq-eqb, eqb-true}
use Rattle.table.specs.declared.refusal.Refusal.TheVariants.{CutShort, BadCount, BadFilling, NoRoom}
use Rattle.table.specs.Answers.{Result, good, refused, then, answer, leaves, over, success}
use Rattle.table.specs.Rows.{Row, Field, operand, source, copies, period, ticks, value, unused, width, ranged, Kind, kinds, kind_at, Words}
use Rattle.table.specs.Rows.{row_size, kind_of, fields_of, row_of, max_flows}
use Rattle.table.specs.Plain.{split, joined, rows_from, count_fits, table_by, draft_of}
use Rattle.table.specs.Bits.{to_bits, from_bits, bits, bytes_from, byte_count}
use Rattle.table.specs.Packed.{Taken, take_field, TakenRow, take_fields, take_row, take_rows, filling, unpacked, row_bits, rows_bits, packed, reading}
use Rattle.table.specs.Packed.{writing, read_answer, words_after, write_answer, bytes_after, count_width, kind_width}
use Rattle.table.specs.RoundTrip.{bytes_given, words_given, RoundTrip}
use Rattle.table.specs.Private.Laid.{fill, whole}
use Rattle.table.proofs.Tests.{and_left, and_right, and_both, good_inj, unless_good, then_good}
use Rattle.table.proofs.Tables.{ranges, known_good, Made, made, each_one, each_two, each_three, made_by}
use Rattle.table.proofs.BitLaws.{length_to_bits, from_to, to_from, to_from_at, zeros, length_bits}
use Rattle.table.proofs.ByteLaws.{bytes_pad, bytes_bits, bits_packed}
use Rattle.table.proofs.AnswerLaws.{no_zero}
use Rattle.table.proofs.Entries.{kind_there}
use Rattle.table.proofs.ReadLaws.{Opened, opened}
use Rattle.table.proofs.PlainRows.{length_split, length_joined, split_joined, joined_split}
use Rattle.table.proofs.WriteLaws.{table_bits, packed_split}

-- ---- one field, of any width: every packed field goes through these two

-- a field that was put is taken
pub take_put : (f w x : ℕ) (rest : List Bool) → x < 2 ^ w → take_field f w (to_bits w x ++ rest) ≡ good (record { field = x; rest = rest })
unfolding take_field
take_put f w x rest h =
    rw (
      le-leb w (length (to_bits w x ++ rest)) (omega (arith, length-append (to_bits w x) rest, length_to_bits w x)),
      take_at (to_bits w x) rest w (length_to_bits w x),
      drop_at (to_bits w x) rest w (length_to_bits w x),
      from_to w h,
    )

-- a field that was taken is put back
pub put_take : (f w : ℕ) (bs : List Bool) (t : Taken) → take_field f w bs ≡ good t → to_bits w t.field ++ t.rest ≡ bs
unfolding take_field
put_take f w bs t e =
    let u = unless_good (leb w (length bs)) CutShort f _ t e in
    let l : length (take w bs) ≡ w = length-take-le w bs (leb-true w (length bs) u.0) in
    subst (λ (x : Taken). to_bits w x.field ++ x.rest ≡ bs) (good_inj u.1)
    (ap (λ (p : List Bool). p ++ drop w bs) (to_from_at w (take w bs) l) ∙ take-append-drop w bs)

-- ---- one row

-- a field in its range fits its width
fits_width : (t : Field) (x : ℕ) → ranged t x ≡ true → x < 2 ^ width t
fits_width operand x e = omega (arith, (ranges operand x e).upto)
fits_width source x e = omega (arith, (ranges source x e).upto)
fits_width copies x e = omega (arith, (ranges copies x e).upto)
fits_width period x e = omega (arith, (ranges period x e).upto)
fits_width ticks x e = omega (arith, (ranges ticks x e).upto)
fits_width value x e = omega (arith, (ranges value x e).upto)
fits_width unused x e = omega (arith, (ranges unused x e).upto)

-- a row that was put is taken
row_taken : (m f : ℕ) (w : Words) (r : Row) (rest : List Bool) → row_of m f w ≡ good r → take_row m f (row_bits w ++ rest) ≡ good (record { words = w; rest = rest })
unfolding take_row take_fields row_bits fields_of
row_taken m f w r rest e =
    let d : Made m f w r = made m f w r e in
    let k : Kind = kind_at w.kind in
    let e0 = kind_there w.kind d.known in
    let f0 = to_bits kind_width w.kind in
    let f1 = to_bits (width k.one) w.one in
    let f2 = to_bits (width k.two) w.two in
    let f3 = to_bits (width k.three) w.three in
    let g : (f0 ++ (f1 ++ (f2 ++ f3))) ++ rest ≡ f0 ++ (f1 ++ (f2 ++ (f3 ++ rest))) = simp append_assoc in
    let t0 = take_put f kind_width w.kind (f1 ++ (f2 ++ (f3 ++ rest))) (omega (arith, d.known)) in
    let t1 = take_put f (width k.one) w.one (f2 ++ (f3 ++ rest)) (fits_width k.one w.one (each_one ranged k w d.in_range)) in
    let t2 = take_put f (width k.two) w.two (f3 ++ rest) (fits_width k.two w.two (each_two ranged k w d.in_range)) in
    let t3 = take_put f (width k.three) w.three rest (fits_width k.three w.three (each_three ranged k w d.in_range)) in
    rw (e0, g, t0, e0, t1, t2, t3, d.in_range, d.in_place)

-- a row that was taken is put back, and is a row of the plain form
record Back (m f : ℕ) (bs : List Bool) (t : TakenRow) : Type 0 where
  put : row_bits t.words ++ t.rest ≡ bs
  row : Row
  made_row : row_of m f t.words ≡ good row

row_back : (m f : ℕ) (bs : List Bool) (t : TakenRow) → take_row m f bs ≡ good t → Back m f bs t
unfolding take_row take_fields row_bits row_of
row_back m f bs t e =
    let n : (n : Taken) × (take_field f kind_width bs ≡ good n) × (then (kind_of f n.field) (λ k. take_fields m f n.field k n.rest) ≡ good t) =
    then_good (take_field f kind_width bs) (λ n. then (kind_of f n.field) λ k. take_fields m f n.field k n.rest) t e in
    let k : (k : Kind) × (kind_of f n.0.field ≡ good k) × (take_fields m f n.0.field k n.0.rest ≡ good t) =
    then_good (kind_of f n.0.field) (λ k. take_fields m f n.0.field k n.0.rest) t n.2 in
    fields_back n.0 k.0 n.1 (known_good f (get_elem? kinds n.0.field) k.0 k.1) k.2
  where
    fields_back : (n : Taken) (k : Kind) → take_field f kind_width bs ≡ good n → get_elem? kinds n.field ≡ some k → take_fields m f n.field k n.rest ≡ good t → Back m f bs t
    fields_back n k en ek e =
        let x = then_good (take_field f (width k.one) n.rest) _ t e in
        let y = then_good (take_field f (width k.two) x.0.rest) _ t x.2 in
        let z = then_good (take_field f (width k.three) y.0.rest) _ t y.2 in
        let w : Words = record { kind = n.field; one = x.0.field; two = y.0.field; three = z.0.field } in
        let r = then_good (fields_of m f k w) (λ r. good (record { words = w; rest = z.0.rest })) t z.2 in
        let f0 = to_bits kind_width n.field in
        let f1 = to_bits (width k.one) w.one in
        let f2 = to_bits (width k.two) w.two in
        let f3 = to_bits (width k.three) w.three in
        let g : (f0 ++ (f1 ++ (f2 ++ f3))) ++ z.0.rest ≡ f0 ++ (f1 ++ (f2 ++ (f3 ++ z.0.rest))) = simp append_assoc in
        let p3 = put_take f (width k.three) y.0.rest z.0 z.1 in
        let p2 = put_take f (width k.two) x.0.rest y.0 y.1 in
        let p1 = put_take f (width k.one) n.rest x.0 x.1 in
        let p0 = put_take f kind_width bs n en in
        subst (Back m f bs) (good_inj r.2) record {
          put = rw (ek, g, p3, p2, p1) p0;
          row = r.0;
          made_row = rw ek r.1;
        }

-- ---- all rows

rows_taken : (m f : ℕ) (ws : List Words) (rs : List Row) (rest : List Bool) → rows_from false m f ws ≡ good rs → filling rest ≡ true
    → take_rows m (length ws) f (rows_bits ws ++ rest) ≡ good ws
unfolding take_rows rows_bits rows_from
rows_taken m f [] rs rest e h = rw h
rows_taken m f (w ∷ ws) rs rest e h =
    let a = then_good (row_of m f w) _ rs e in
    let b = then_good (rows_from false m (suc f) ws) (λ vs. good (a.0 ∷ vs)) rs a.2 in
    rw (append_assoc (row_bits w) (rows_bits ws) rest, row_taken m f w a.0 (rows_bits ws ++ rest) a.1, rows_taken m (suc f) ws b.0 rest b.1 h)

record RowsBack (m f : ℕ) (bs : List Bool) (ws : List Words) : Type 0 where
  rest : List Bool
  put : rows_bits ws ++ rest ≡ bs
  filled : filling rest ≡ true
  rows : List Row
  made_rows : rows_from false m f ws ≡ good rows

rows_back : (m n f : ℕ) (bs : List Bool) (ws : List Words) → take_rows m n f bs ≡ good ws → RowsBack m f bs ws
unfolding take_rows rows_bits rows_from
rows_back m zero f bs ws e =
    let u = unless_good (filling bs) BadFilling 0 (good []) ws e in
    subst (RowsBack m f bs) (good_inj u.1) record { rest = bs; put = refl; filled = u.0; rows = []; made_rows = refl }
rows_back m (suc n) f bs ws e =
    let a = then_good (take_row m f bs) _ ws e in
    let b = then_good (take_rows m n (suc f) a.0.rest) (λ vs. good (a.0.words ∷ vs)) ws a.2 in
    subst (RowsBack m f bs) (good_inj b.2) (longer a.0 b.0 (row_back m f bs a.0 a.1) (rows_back m n (suc f) a.0.rest b.0 b.1))
  where
    longer : (t : TakenRow) (vs : List Words) → Back m f bs t → RowsBack m (suc f) t.rest vs → RowsBack m f bs (t.words ∷ vs)
    longer t vs d i = record {
      rest = i.rest;
      put = rw (append_assoc (row_bits t.words) (rows_bits vs) i.rest, i.put) d.put;
      filled = i.filled;
      rows = d.row ∷ i.rows;
      made_rows = rw (d.made_row, i.made_rows);
    }

-- ---- the filling

from_zeros : (n : ℕ) → from_bits (replicate n false) ≡ 0
from_zeros n = ap from_bits (sym (zeros n)) ∙ from_to n (pow_pos n)

pub filled : (n : ℕ) → filling (fill n) ≡ true
filled n =
    let l : length (fill n) < 8 = omega (arith, length-replicate (whole n - n) false) in
    and_both (lt-ltb (length (fill n)) 8 l) (eq-eqb (from_bits (fill n)) 0 (from_zeros (whole n - n)))

-- what fills is zero bits
zero_bits : (bs : List Bool) → filling bs ≡ true → bs ≡ replicate (length bs) false
zero_bits bs e =
    let z : from_bits bs ≡ 0 = eqb-true (from_bits bs) 0 (and_right (ltb (length bs) 8) _ e) in
    sym (to_from bs) ∙ ap (to_bits (length bs)) z ∙ zeros (length bs)

-- ---- the whole table

-- what is read of the bytes of an accepted table is its words
pub unpacked_packed : (m : ℕ) (words : List ℕ) (rows : List Row) → draft_of m words ≡ good rows → unpacked (packed (split m words)) ≡ good (split m words)
unfolding unpacked table_by
unpacked_packed m words rows e =
    let ws = split m words in
    let table = table_bits m words in
    let d = made_by false m words rows e in
    let u = unless_good (count_fits m && eqb (length words) (row_size * m)) BadCount 0 (rows_from false m 0 ws) rows e in
    let end = fill (length table) in
    let g : bits (packed ws) ≡ to_bits count_width m ++ (rows_bits ws ++ end) =
    ap bits (packed_split m words) ∙ bits_packed table ∙ append_assoc (to_bits count_width m) (rows_bits ws) end in
    let t : take_rows m m 0 (rows_bits ws ++ end) ≡ good ws =
    ap (λ (n : ℕ). take_rows m n 0 (rows_bits ws ++ end)) (sym (length_split m words)) ∙ rows_taken m 0 ws rows end u.1 (filled (length table)) in
    rw (g, take_put 0 count_width m (rows_bits ws ++ end) (omega (arith, d.few)), and_left (count_fits m) _ u.0, t)

-- The bytes of a table that is not refused.
module _ (bs : List ℕ) (ws : List Words) (e : unpacked bs ≡ good ws) where
  o : Opened bs ws
  o = opened bs ws e

  back : RowsBack (length ws) 0 (drop count_width (bits bs)) ws
  back = rows_back (length ws) (length ws) 0 (drop count_width (bits bs)) ws o.rows

  -- its words are an accepted table
  table_unpacked : draft_of (length ws) (joined ws) ≡ good back.rows
  unfolding table_by
  table_unpacked =
      rw (
        le-leb 1 (length ws) o.some_flow,
        le-leb (length ws) max_flows o.few,
        eq-eqb (length (joined ws)) (row_size * length ws) (length_joined ws),
        split_joined ws,
        back.made_rows,
      )

  -- and are packed as these bytes
  pub packed_unpacked : ((k : ℕ) → get_or bs k 0 < 256) → packed ws ≡ bs
  unfolding packed
  packed_unpacked below =
      let n = length bs in
      let table = to_bits count_width (length ws) ++ rows_bits ws in
      let rest = back.rest in
      let z = length rest in
      let g : table ++ rest ≡ bits bs =
      append_assoc (to_bits count_width (length ws)) (rows_bits ws) rest ∙ ap (λ (l : List Bool). to_bits count_width (length ws) ++ l) back.put
      ∙ put_take 0 count_width (bits bs) (record { field = length ws; rest = drop count_width (bits bs) }) o.count in
      let few : z < 8 = ltb-true z 8 (and_left (ltb z 8) _ back.filled) in
      let c : byte_count (length table) ≡ n = omega (arith, ap length g, length-append table rest, length_bits bs) in
      ap (λ (k : ℕ). bytes_from k table) c ∙ sym (bytes_pad n table z)
      ∙ ap (bytes_from n) (ap (λ (l : List Bool). table ++ l) (sym (zero_bits rest back.filled)) ∙ g)
      ∙ bytes_bits bs below

-- ---- what callers see

read_back : (m : ℕ) (words old buf : List ℕ) → (write_answer m words (length old)).number ≡ 0 → row_size * m ≤ length buf
    → (read_answer (bytes_given m words old) (length buf) ≡ success m) × (words_after (bytes_given m words old) buf ≡ over words buf)
unfolding writing reading
read_back m words old buf ok room = go (writing m words (length old)) refl ok
  where
    go : (r : Result (List ℕ)) → writing m words (length old) ≡ r → (answer length r).number ≡ 0
        → (read_answer (take (answer length r).count (leaves (λ bs. bs) r old)) (length buf) ≡ success m)
        × (words_after (take (answer length r).count (leaves (λ bs. bs) r old)) buf ≡ over words buf)
    go (refused why f) e z = absurd (no_zero why z)
    go (good bs) e z =
        let t = then_good (draft_of m words) _ bs e in
        let u = unless_good (leb (length (packed (split m words))) (length old)) NoRoom 0 (good (packed (split m words))) bs t.2 in
        let d = made_by false m words t.0 t.1 in
        let p : take (length bs) (bs ++ drop (length bs) old) ≡ packed (split m words) = take_at bs (drop (length bs) old) (length bs) refl ∙ sym (good_inj u.1) in
        rw (p, unpacked_packed m words t.0 t.1, length_split m words, le-leb (row_size * m) (length buf) room)
        (ap success (length_split m words), ap (λ (l : List ℕ). over l buf) (joined_split m words d.words_size))

written_back : (bs old buf : List ℕ) → ((k : ℕ) → get_or bs k 0 < 256) → (read_answer bs (length old)).number ≡ 0 → length bs ≤ length buf
    → (write_answer (read_answer bs (length old)).count (words_given bs old) (length buf) ≡ success (length bs))
    × (bytes_after (read_answer bs (length old)).count (words_given bs old) buf ≡ over bs buf)
unfolding writing reading
written_back bs old buf below ok room = go (reading bs (length old)) refl ok
  where
    go : (r : Result (List Words)) → reading bs (length old) ≡ r → (answer length r).number ≡ 0
        → (write_answer (answer length r).count (take (row_size * (answer length r).count) (leaves joined r old)) (length buf) ≡ success (length bs))
        × (bytes_after (answer length r).count (take (row_size * (answer length r).count) (leaves joined r old)) buf ≡ over bs buf)
    go (refused why f) e z = absurd (no_zero why z)
    go (good ws) e z =
        let t = then_good (unpacked bs) _ ws e in
        let u = unless_good (leb (row_size * length t.0) (length old)) NoRoom 0 (good t.0) ws t.2 in
        let q : unpacked bs ≡ good ws = t.1 ∙ u.1 in
        let p : take (row_size * length ws) (joined ws ++ drop (length (joined ws)) old) ≡ joined ws =
        take_at (joined ws) (drop (length (joined ws)) old) (row_size * length ws) (length_joined ws) in
        rw (p, table_unpacked bs ws q, split_joined ws, packed_unpacked bs ws q below, le-leb (length bs) (length buf) room) (refl, refl)

pub round_trip : RoundTrip
round_trip = record { read_written = read_back; write_read = written_back }

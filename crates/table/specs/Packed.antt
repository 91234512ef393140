-- The packed form: reading and writing it, and what both answer and leave.
use Rattle.std.specs.Prelude.{ℕ, zero, suc, ◌*◌, Bool, ◌&&◌, List, [], ◌∷◌, ◌++◌, length, take, drop, leb, ltb, eqb}
use Rattle.std.proofs.Math.Option.{Option, none, some}
use Rattle.std.proofs.Math.ListN.{get_elem?}
use Rattle.table.specs.declared.Answer.{Answer}
use Rattle.table.specs.declared.refusal.Refusal.TheVariants.{NoRoom, BadCount, CutShort, BadFilling}
use Rattle.table.specs.Answers.{Result, good, unless, then, answer, leaves}
use Rattle.table.specs.Rows.{Kind, Words, row_size, kinds, kind_of, fields_of, width}
use Rattle.table.specs.Plain.{split, joined, count_fits, draft_of}
use Rattle.table.specs.Bits.{to_bits, from_bits, bits, bytes}

abbrev pub count_width : ℕ
count_width = 8

abbrev pub kind_width : ℕ
kind_width = 5

-- a field taken from the front of the bits, with the bits after it
pub record Taken : Type 0 where
  pub field : ℕ
  pub rest : List Bool

-- the next w bits, for row f
unfoldable pub take_field : ℕ → ℕ → List Bool → Result Taken
take_field f w bs = unless (leb w (length bs)) CutShort f (good record { field = from_bits (take w bs); rest = drop w bs })

-- a row taken from the front of the bits, with the bits after it
pub record TakenRow : Type 0 where
  pub words : Words
  pub rest : List Bool

-- row f of m, of a known kind with the number n: its fields, and then their ranges and places
unfoldable pub take_fields : ℕ → ℕ → ℕ → Kind → List Bool → Result TakenRow
take_fields m f n k bs =
    then (take_field f (width k.one) bs) λ x.
    then (take_field f (width k.two) x.rest) λ y.
    then (take_field f (width k.three) y.rest) λ z.
    let w : Words = record { kind = n; one = x.field; two = y.field; three = z.field } in
    then (fields_of m f k w) λ r. good record { words = w; rest = z.rest }

unfoldable pub take_row : ℕ → ℕ → List Bool → Result TakenRow
take_row m f bs =
    then (take_field f kind_width bs) λ n.
    then (kind_of f n.field) λ k.
    take_fields m f n.field k n.rest

-- what is left after the rows fills the last byte up with zero bits (filling is the paper's word for padding)
abbrev pub filling : List Bool → Bool
filling bs = ltb (length bs) 8 && eqb (from_bits bs) 0

-- n rows of m from number f on, and then the filling
unfoldable pub take_rows : ℕ → ℕ → ℕ → List Bool → Result (List Words)
take_rows m zero f bs = unless (filling bs) BadFilling 0 (good [])
take_rows m (suc n) f bs =
    then (take_row m f bs) λ r. then (take_rows m n (suc f) r.rest) λ ws. good (r.words ∷ ws)

unfoldable pub unpacked : List ℕ → Result (List Words)
unpacked packed =
    then (take_field 0 count_width (bits packed)) λ m.
    unless (count_fits m.field) BadCount 0 (take_rows m.field m.field 0 m.rest)

-- a packed row; a number that is no kind has no fields
abbrev pub field_bits : Option Kind → Words → List Bool
field_bits none w = []
field_bits (some k) w = to_bits (width k.one) w.one ++ (to_bits (width k.two) w.two ++ to_bits (width k.three) w.three)

unfoldable pub row_bits : Words → List Bool
row_bits w = to_bits kind_width w.kind ++ field_bits (get_elem? kinds w.kind) w

unfoldable pub rows_bits : List Words → List Bool
rows_bits [] = []
rows_bits (w ∷ ws) = row_bits w ++ rows_bits ws

-- the bytes of a packed table
unfoldable pub packed : List Words → List ℕ
packed ws = bytes (to_bits count_width (length ws) ++ rows_bits ws)

-- What reading comes to where there is room for so many words, and writing where there is room for so many bytes.
unfoldable pub reading : List ℕ → ℕ → Result (List Words)
reading bs room = then (unpacked bs) λ ws. unless (leb (row_size * length ws) room) NoRoom 0 (good ws)

unfoldable pub writing : ℕ → List ℕ → ℕ → Result (List ℕ)
writing m words room =
    then (draft_of m words) λ rows.
    unless (leb (length (packed (split m words))) room) NoRoom 0 (good (packed (split m words)))

-- What both answer, and leave in the lent buffer.
abbrev pub read_answer : List ℕ → ℕ → Answer
read_answer bs room = answer length (reading bs room)

abbrev pub words_after : List ℕ → List ℕ → List ℕ
words_after bs old = leaves joined (reading bs (length old)) old

abbrev pub write_answer : ℕ → List ℕ → ℕ → Answer
write_answer m words room = answer length (writing m words room)

abbrev pub bytes_after : ℕ → List ℕ → List ℕ → List ℕ
bytes_after m words old = leaves (λ bs. bs) (writing m words (length old)) old

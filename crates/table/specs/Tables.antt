-- What a table that is not refused has: rows whose fields are in range and in place. For the proofs of this crate and of those above it
-- (proofs/Tables); no public contract names it.
use Rattle.std.specs.Prelude.{◌≡◌, ℕ, ◌≤◌, ◌<◌, true, List, get_or}
use Rattle.table.specs.Rows.{Row, input, constant, combine, register, faster, slower, later, head, tail, sample, merge, unrated, view, Kind}
use Rattle.table.specs.Rows.{Field, operand, source, copies, period, ticks, value, unused, max_field, max_copies}
use Rattle.table.specs.Links.{is_flow}

-- flow f's row
abbrev pub row_at : List Row → ℕ → Row
row_at rows f = get_or rows f (tail 0)

-- a number in its range
pub record In (low x high : ℕ) : Type 0 where
  pub from : low ≤ x
  pub upto : x ≤ high

-- what a field of row f holds, in a table of m flows
abbrev pub Holds : ℕ → ℕ → Field → ℕ → Type 0
Holds m f operand x = x < f
Holds m f source x = x < m
Holds m f copies x = In 1 x max_copies
Holds m f period x = In 1 x max_field
Holds m f ticks x = x ≤ max_field
Holds m f value x = Unit {0}
Holds m f unused x = Unit {0}

-- a property of each field, by kind: of three words, and of the row that they make, whose values may be anything
abbrev pub WordsHave : (Field → ℕ → Type 0) → Kind → ℕ → ℕ → ℕ → Type 0
WordsHave P k x y z = P k.one x × P k.two y × P k.three z

abbrev pub RowHas : (Field → ℕ → Type 0) → Row → Type 0
RowHas P (input n p) = P period n × P ticks p
RowHas P (constant v n p) = P period n × P ticks p
RowHas P (combine op a b) = P operand a × P operand b
RowHas P (register v b a) = P operand b × P source a
RowHas P (faster a k g) = P operand a × P copies k × P period g
RowHas P (slower a k) = P operand a × P copies k
RowHas P (later a d) = P operand a × P ticks d
RowHas P (head a v s) = P operand a × P ticks s
RowHas P (tail a) = P operand a × Unit {0}
RowHas P (sample u a c) = P operand a × P operand c
RowHas P (merge c a b) = P operand c × P operand a × P operand b
RowHas P unrated = Unit {0}
RowHas P (view u a c w) = P operand a × P operand c × P period w

abbrev pub FieldsFit : ℕ → ℕ → Kind → ℕ → ℕ → ℕ → Type 0
FieldsFit m f k x y z = WordsHave (Holds m f) k x y z

abbrev pub Fits : ℕ → ℕ → Row → Type 0
Fits m f r = RowHas (Holds m f) r

-- the flows that fields name have a property; and the fields of row f hold what they may
abbrev pub Named : (ℕ → Type 0) → Field → ℕ → Type 0
Named Q t x = is_flow t ≡ true → Q x

abbrev pub Linked : (ℕ → Type 0) → ℕ → ℕ → Field → ℕ → Type 0
Linked Q m f t x = Holds m f t x × Named Q t x

-- What the code's own functions are held to: the numbers of fields and kinds in its tables, and what its steps find.
use Rattle.std.specs.Prelude.{◌≡◌, ℕ, ◌+◌, ◌*◌, ◌/◌, ◌%◌, ◌^◌, ◌≤◌, Bool, false, cond, ◌&&◌, List, [], ◌∷◌, leb, ltb, eqb, length, get_or}
use Rattle.std.specs.Prelude as std
use Rattle.table.specs.declared.Answer.{Answer}
use Rattle.table.specs.declared.refusal.Refused.{Refused}
use Rattle.table.specs.declared.refusal.Refusal.{Refusal}
use Rattle.table.specs.Answers.{Result, good, refused, number, answer, success, parts}
use Rattle.table.specs.Rows.{Field, operand, source, copies, period, ticks, value, unused, least, width, Kind, kind_at, kind_count, unrated_kind, Words, takes, row_by, row_size, max_flows}
use Rattle.table.specs.Plain.{split, rows_from}
use Rattle.table.specs.Bits.{byte_count}
use Rattle.table.specs.Places.{last_place}
use Rattle.table.specs.Packed.{count_width, rows_bits}

-- the number of a field
abbrev pub code : Field → ℕ
code operand = 0
code source = 1
code copies = 2
code period = 3
code ticks = 4
code value = 5
code unused = 6

abbrev pub field_list : Kind → List Field
field_list k = k.one ∷ k.two ∷ k.three ∷ []

-- The constant lists of the code; proofs/Entries and Accepting hold them to the definitions. By a field's number: the least and the greatest number that it
-- holds, its bits, and what an accepted number in row f of m is below.
abbrev pub leasts : List ℕ
leasts = 0 ∷ 0 ∷ 1 ∷ 1 ∷ 0 ∷ 0 ∷ 0 ∷ []

abbrev pub mosts : List ℕ
mosts = 63 ∷ 63 ∷ 63 ∷ 4095 ∷ 4095 ∷ 4294967295 ∷ 0 ∷ []

abbrev pub widths : List ℕ
widths = 6 ∷ 6 ∷ 6 ∷ 12 ∷ 12 ∷ 32 ∷ 0 ∷ []

abbrev pub bounds : ℕ → ℕ → List ℕ
bounds m f = f ∷ m ∷ 64 ∷ 4096 ∷ 4096 ∷ 4294967296 ∷ 1 ∷ []

-- by kind: the numbers of the three fields as digits to base 8
abbrev pub kind_fields : List ℕ
kind_fields =
    (3 + 8 * 4 + 64 * 6)
    ∷ (5 + 8 * 3 + 64 * 4)
    ∷ (0 + 8 * 0 + 64 * 6)
    ∷ (0 + 8 * 0 + 64 * 6)
    ∷ (0 + 8 * 0 + 64 * 6)
    ∷ (0 + 8 * 0 + 64 * 6)
    ∷ (0 + 8 * 0 + 64 * 6)
    ∷ (5 + 8 * 0 + 64 * 1)
    ∷ (0 + 8 * 2 + 64 * 3)
    ∷ (0 + 8 * 2 + 64 * 6)
    ∷ (0 + 8 * 4 + 64 * 6)
    ∷ (0 + 8 * 5 + 64 * 4)
    ∷ (0 + 8 * 6 + 64 * 6)
    ∷ (0 + 8 * 0 + 64 * 6)
    ∷ (0 + 8 * 0 + 64 * 6)
    ∷ (0 + 8 * 0 + 64 * 0)
    ∷ (6 + 8 * 6 + 64 * 6)
    ∷ (0 + 8 * 0 + 64 * 3)
    ∷ (0 + 8 * 0 + 64 * 3)
    ∷ []

-- the kind that is not known, where the rates are asked for or are not
abbrev pub barred_kind : Bool → ℕ
barred_kind rated = cond rated unrated_kind kind_count

-- a test tells whether a kind is known
abbrev pub Known : ℕ → ℕ → Bool → Type 0
Known barred kind t = (rated : Bool) → barred ≡ barred_kind rated → t ≡ (takes rated kind && ltb kind kind_count)

-- a number of a field by a list of bounds
abbrev pub bounded : List ℕ → Field → ℕ → Bool
bounded bs t x = leb (least t) x && ltb x (get_or bs (code t) 0)

-- a test of x by the number of its field
abbrev pub Within : List ℕ → ℕ → ℕ → Bool → Type 0
Within bs n x b = (t : Field) → n ≡ code t → b ≡ bounded bs t x

-- the words of a row of kind n from the number that its fields are in packed form
unfoldable pub fields_in : ℕ → ℕ → Words
fields_in n x =
    let k : Kind = kind_at n in
    record {
      kind = n;
      one = x / 2 ^ (width k.three + width k.two) % 2 ^ width k.one;
      two = x / 2 ^ width k.three % 2 ^ width k.two;
      three = x / 2 ^ 0 % 2 ^ width k.three;
    }

-- the number of a refusal, and 0 where there is none
abbrev pub verdict : {A : Type 0} → Result A → ℕ
verdict (good a) = 0
verdict (refused why f) = number why

-- a test tells, by the bounds of a row and a count, whether the row is accepted
abbrev pub Accepted : ℕ → List ℕ → Words → Bool → Type 0
Accepted barred bs w t = (rated : Bool) (m f : ℕ) → barred ≡ barred_kind rated → m ≤ max_flows → f ≤ max_flows → bs ≡ bounds m f → t ≡ eqb (verdict (row_by rated m f w)) 0

-- why a row that is not accepted is refused
abbrev pub Fault : Bool → Words → Refusal → Type 0
Fault rated w why = (m f : ℕ) → eqb (verdict (row_by rated m f w)) 0 ≡ false → number why ≡ verdict (row_by rated m f w)

-- what a survey says of a table of m flows: what the test answers, and how many bytes it takes
abbrev pub told : ℕ → std.Result ℕ Refused → Answer
told m (std.Ok n) = success m
told m (std.Err r) = parts (std.Err r)

abbrev pub Sized : List Words → std.Result ℕ Refused → Type 0
Sized ws (std.Ok n) = (n ≡ byte_count (count_width + length (rows_bits ws))) × (n ≤ byte_count last_place)
Sized ws (std.Err r) = Unit {0}

-- a draft in plain form that is not refused
pub record Ready (m : ℕ) (words : List ℕ) : Type 0 where
  pub few : m ≤ max_flows
  pub words_size : length words ≡ row_size * m
  pub accepted : answer (λ rs. m) (rows_from false m 0 (split m words)) ≡ success m

-- The rows of a table: a line a kind, and a field's range, width and place.
use Rattle.std.specs.Prelude.{ℕ, suc, ◌-◌, Bool, true, false, cond, not, ◌&&◌, List, [], ◌∷◌, get_or, leb, ltb, eqb}
use Rattle.std.proofs.Math.Option.{Option, none, some}
use Rattle.std.proofs.Math.ListN.{get_elem?}
use Rattle.table.specs.declared.refusal.Refusal.TheVariants.{UnknownKind, OutOfRange, Misplaced}
use Rattle.table.specs.Answers.{Result, good, refused, unless, then}

-- The limits of what a table has written in it.
abbrev pub max_flows : ℕ
max_flows = 64

abbrev pub max_field : ℕ
max_field = 4095

abbrev pub max_copies : ℕ
max_copies = 63

abbrev pub max_value : ℕ
max_value = 4294967295

-- kinds 2 to 6
pub data Op : Type 0 where
  add subtract less equal larger : Op

-- The row of a flow. Flow is the paper's word for a dataflow signal, row for its equation. The paper's operators in the terms of
-- synchronous languages: register is fby (a unit delay), clocked by its beat; faster is up-sampling (*^), slower down-sampling (/^),
-- later a phase offset (~>), head concatenation (::). When and when-not are one row, told apart by the truth that they sample. An unrated row is
-- an input whose period and phase are not written. A view is when-seen or when-not-seen: when over a condition that is looked at once a
-- view period w (a clock view).
pub data Row : Type 0 where
  input : (period phase : ℕ) → Row
  constant : (value period phase : ℕ) → Row
  combine : (op : Op) (a b : ℕ) → Row
  register : (initial beat source : ℕ) → Row
  faster : (a k gap : ℕ) → Row
  slower : (a k : ℕ) → Row
  later : (a d : ℕ) → Row
  head : (a value s : ℕ) → Row
  tail : (a : ℕ) → Row
  sample : (truth : Bool) (a c : ℕ) → Row
  merge : (c a b : ℕ) → Row
  unrated : Row
  view : (truth : Bool) (a c w : ℕ) → Row

-- What a field holds: a lower flow, any flow of the table, a k, a period or gap, a phase or d or s, a value, or nothing.
pub data Field : Type 0 where
  operand source copies period ticks value unused : Field

abbrev pub least : Field → ℕ
least operand = 0
least source = 0
least copies = 1
least period = 1
least ticks = 0
least value = 0
least unused = 0

abbrev pub most : Field → ℕ
most operand = max_flows - 1
most source = max_flows - 1
most copies = max_copies
most period = max_field
most ticks = max_field
most value = max_value
most unused = 0

-- the bits of a field in packed form
abbrev pub width : Field → ℕ
width operand = 6
width source = 6
width copies = 6
width period = 12
width ticks = 12
width value = 32
width unused = 0

unfoldable pub ranged : Field → ℕ → Bool
ranged t x = leb (least t) x && leb x (most t)

-- in row f of m: an operand is a lower flow, a source a flow of the table
unfoldable pub placed : ℕ → ℕ → Field → ℕ → Bool
placed m f operand x = ltb x f
placed m f source x = ltb x m
placed m f copies x = true
placed m f period x = true
placed m f ticks x = true
placed m f value x = true
placed m f unused x = true

-- a kind: its fields in order, and the row that they make
pub record Kind : Type 0 where
  pub one : Field
  pub two : Field
  pub three : Field
  pub make : ℕ → ℕ → ℕ → Row

abbrev pub kind : Field → Field → Field → (ℕ → ℕ → ℕ → Row) → Kind
kind a b c make = record { one = a; two = b; three = c; make = make }

-- kinds 0 to 18
unfoldable pub kinds : List Kind
kinds =
    kind period ticks unused (λ n p z. input n p)
    ∷ kind value period ticks (λ v n p. constant v n p)
    ∷ kind operand operand unused (λ a b z. combine add a b)
    ∷ kind operand operand unused (λ a b z. combine subtract a b)
    ∷ kind operand operand unused (λ a b z. combine less a b)
    ∷ kind operand operand unused (λ a b z. combine equal a b)
    ∷ kind operand operand unused (λ a b z. combine larger a b)
    ∷ kind value operand source (λ v b a. register v b a)
    ∷ kind operand copies period (λ a k g. faster a k g)
    ∷ kind operand copies unused (λ a k z. slower a k)
    ∷ kind operand ticks unused (λ a d z. later a d)
    ∷ kind operand value ticks (λ a v s. head a v s)
    ∷ kind operand unused unused (λ a y z. tail a)
    ∷ kind operand operand unused (λ a c z. sample true a c)
    ∷ kind operand operand unused (λ a c z. sample false a c)
    ∷ kind operand operand operand (λ c a b. merge c a b)
    ∷ kind unused unused unused (λ x y z. unrated)
    ∷ kind operand operand period (λ a c w. view true a c w)
    ∷ kind operand operand period (λ a c w. view false a c w)
    ∷ []

-- how many there are, the kind of an unrated row, and the first of the views
abbrev pub kind_count : ℕ
kind_count = 19

abbrev pub unrated_kind : ℕ
unrated_kind = 16

abbrev pub first_view : ℕ
first_view = 17

-- the kind with a number, and the row that it makes of three fields; a number from kind_count on is no kind
abbrev pub no_kind : Kind
no_kind = kind unused unused unused (λ x y z. tail x)

abbrev pub kind_at : ℕ → Kind
kind_at n = get_or kinds n no_kind

abbrev pub decode : ℕ → ℕ → ℕ → ℕ → Row
decode n x y z = (kind_at n).make x y z

-- how many words a row has: its kind's number, and its fields
abbrev pub row_size : ℕ
row_size = 4

pub record Words : Type 0 where
  pub kind : ℕ
  pub one : ℕ
  pub two : ℕ
  pub three : ℕ

-- a test of each field
abbrev pub each : (Field → ℕ → Bool) → Kind → Words → Bool
each test k w = test k.one w.one && (test k.two w.two && test k.three w.three)

-- The kind with a number, for row f.
abbrev pub known : {A : Type 0} → ℕ → Option A → Result A
known f none = refused UnknownKind f
known f (some k) = good k

abbrev pub kind_of : ℕ → ℕ → Result Kind
kind_of f k = known f (get_elem? kinds k)

-- row f of m, of a known kind: every field in its range, and then every operand in its place
unfoldable pub fields_of : ℕ → ℕ → Kind → Words → Result Row
fields_of m f k w =
    unless (each ranged k w) OutOfRange f
    (unless (each (placed m f) k w) Misplaced f
    (good (k.make w.one w.two w.three)))

unfoldable pub row_of : ℕ → ℕ → Words → Result Row
row_of m f w = then (kind_of f w.kind) λ k. fields_of m f k w

-- The same where the rates are asked for: the kind of an unrated row is then not known.
abbrev pub takes : Bool → ℕ → Bool
takes rated k = not (rated && eqb k unrated_kind)

abbrev pub row_by : Bool → ℕ → ℕ → Words → Result Row
row_by rated m f w = unless (takes rated w.kind) UnknownKind f (row_of m f w)

-- A test of a register's beat and source, which every other row passes.
abbrev pub on_register : (ℕ → ℕ → Bool) → Row → Bool
on_register test (input n p) = true
on_register test (constant v n p) = true
on_register test (combine op a b) = true
on_register test (register v b a) = test b a
on_register test (faster a k g) = true
on_register test (slower a k) = true
on_register test (later a d) = true
on_register test (head a v s) = true
on_register test (tail a) = true
on_register test (sample u a c) = true
on_register test (merge c a b) = true
on_register test unrated = true
on_register test (view u a c w) = true

-- the lowest register, from flow f on, that does not pass it
unfoldable pub bad_register : (ℕ → ℕ → Bool) → ℕ → List Row → Option ℕ
bad_register test f [] = none
bad_register test f (r ∷ rs) = cond (on_register test r) (bad_register test (suc f) rs) (some f)

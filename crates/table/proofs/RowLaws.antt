-- One row of the packed form: its kind, and its fields, taken together and apart. Assumes nothing.
use mathlib.Core.Path.{◌≡◌, ap, ◌∙◌}
use mathlib.Core.Bool.{Bool}
use mathlib.Core.List.{List}
use Prim.Native.Nat.{ℕ, ◌+◌, ◌-◌, ◌/◌, ◌%◌, ◌^◌, ◌<◌, ◌≤◌}
use native.Mathlib.Decide.{dec_lt}
use native.Mathlib.Omega.{arith}
use lib.ListN.{length, take, drop, length-take, length-drop}
use lib.Seq.{take-take, drop-drop}
use borrow.Author.Tests.{le-leb, lt-leb}
use Rattle.table.specs.declared.Cursor.{Cursor}
use Rattle.table.specs.declared.Record.{Record}
use Rattle.std.specs.Prelude.{Some, None}
use Rattle.table.specs.declared.refusal.Refusal.TheVariants.{CutShort, UnknownKind}
use Rattle.table.specs.Answers.{good, refused}
use Rattle.table.specs.Rows.{width, Words, row_of, Kind, kind_at, kind_count}
use Rattle.table.specs.Plain.{words_of}
use Rattle.table.specs.Bits.{from_bits}
use Rattle.table.specs.Packed.{take_field, take_fields, take_row, kind_width}
use Rattle.table.specs.Places.{take_at_bit, last_place, longest_record, taking_parts}
use Rattle.table.specs.Lengths.{row_length}
use Rattle.table.specs.Private.Codes.{fields_in}
use Rattle.table.specs.Private.Steps.{Found}
use Rattle.table.proofs.BitLaws.{drop_take}
use Rattle.table.proofs.Entries.{kind_there, kind_gone}
use Rattle.table.proofs.Lengths.{row_le}
use Rattle.table.proofs.Windows.{divided, Had, had, too_short}

-- ---- fields in a row

field_there : (f w : ℕ) (bs : List Bool) → w ≤ length bs → take_field f w bs ≡ good (record { field = from_bits (take w bs); rest = drop w bs })
unfolding take_field
field_there f w bs h = rw (le-leb w (length bs) h)

field_gone : (f w : ℕ) (bs : List Bool) → length bs < w → take_field f w bs ≡ refused CutShort f
unfolding take_field
field_gone f w bs h = rw (lt-leb w (length bs) h)

-- too few bits for the three fields: one of them is not there
fields_short : (m f n : ℕ) (k : Kind) (bs : List Bool) → length bs < width k.one + width k.two + width k.three
    → take_fields m f n k bs ≡ refused CutShort f
unfolding take_fields
fields_short m f n k bs h =
    let one : ℕ = width k.one in
    let two : ℕ = width k.two in
    let three : ℕ = width k.three in
    let b1 : List Bool = drop one bs in
    let b2 : List Bool = drop two b1 in
    elim (dec_lt (length bs) one) [
      | yes x ↦ rw (field_gone f one bs x)
      | no x ↦ elim (dec_lt (length b1) two) [
        | yes y ↦ rw (field_there f one bs (omega arith), field_gone f two b1 y)
        | no y ↦ rw (
          field_there f one bs (omega arith),
          field_there f two b1 (omega arith),
          field_gone f three b2 (omega (arith, length-drop one bs, length-drop two b1)),
        )
      ]
    ]

-- the w bits at a place of the first n bits
piece : (bs : List Bool) (n at w r : ℕ) → at + w + r ≡ n → n ≤ length bs → from_bits (take n bs) / 2 ^ r % 2 ^ w ≡ from_bits (take w (drop at bs))
piece bs n at w r e h =
    let len : at + w + r ≡ length (take n bs) = rw (length-take n bs) (omega arith) in
    let s : n ≡ at + (w + r) = omega arith in
    divided (take n bs) at w r len
    ∙ ap (λ (k : ℕ). from_bits (take w (drop at (take k bs)))) s
    ∙ ap (λ (l : List Bool). from_bits (take w l)) (drop_take at (w + r) bs)
    ∙ ap from_bits (take-take w (w + r) (drop at bs) (omega arith))

-- the three fields that are taken one after the other
abbrev apart : ℕ → Kind → List Bool → Words
apart n k bs =
    record {
      kind = n;
      one = from_bits (take (width k.one) bs);
      two = from_bits (take (width k.two) (drop (width k.one) bs));
      three = from_bits (take (width k.three) (drop (width k.two) (drop (width k.one) bs)));
    }

together : (n x size : ℕ) (bs : List Bool) → size ≡ width (kind_at n).one + width (kind_at n).two + width (kind_at n).three → size ≤ length bs
    → x ≡ from_bits (take size bs) → fields_in n x ≡ apart n (kind_at n) bs
unfolding fields_in
together n x size bs s h e =
    let one : ℕ = width (kind_at n).one in
    let two : ℕ = width (kind_at n).two in
    let three : ℕ = width (kind_at n).three in
    rw (
      e,
      piece bs size 0 one (three + two) (omega arith) h,
      piece bs size one two three (omega arith) h,
      piece bs size (one + two) three 0 (omega arith) h,
      drop-drop two one bs,
    )

-- ---- the code's lists

-- a row is not shorter than its kind
pub row_ge : (n : ℕ) → kind_width ≤ row_length n
unfolding row_length
row_ge n = omega arith

-- two fields have few bits enough to shift by
pub two_widths : (n : ℕ) → n < kind_count → width (kind_at n).three + width (kind_at n).two < 64
unfolding row_length
two_widths n known = omega (arith, row_le n known)

-- ---- the row

module _ (bs : List Bool) (at : ℕ) (room : at + longest_record ≤ last_place) (inside : at ≤ length bs) where
  pub no_kind_lem : take_at_bit bs at kind_width ≡ taking_parts None → (m f : ℕ) → take_row m f (drop at bs) ≡ refused CutShort f
  unfolding take_row
  no_kind_lem e = λ m f. rw (too_short bs at kind_width (omega arith) (omega arith) inside e f)

  -- the kind was taken
  module _ (n : ℕ) (p : Cursor) (k : take_at_bit bs at kind_width ≡ taking_parts (Some (n, p))) where
    hk : Had bs at kind_width n p
    hk = had bs at kind_width n p k

    pub kind_past : p.at ≡ at + kind_width
    kind_past = hk.past

    pub bad_kind : kind_count ≤ n → (m f : ℕ) → take_row m f (drop at bs) ≡ refused UnknownKind f
    unfolding take_row
    bad_kind h = λ m f. rw (hk.field f, kind_gone n h)

    -- and is known
    module _ (known : n < kind_count) (end : ℕ) (is : end ≡ at + row_length n) where
      size : end ≡ at + (kind_width + width (kind_at n).one + width (kind_at n).two + width (kind_at n).three)
      unfolding row_length
      size = is

      pub cut_row : length bs < end → (m f : ℕ) → take_row m f (drop at bs) ≡ refused CutShort f
      unfolding take_row
      cut_row h =
          let l : length (drop p.at bs) < width (kind_at n).one + width (kind_at n).two + width (kind_at n).three =
          omega (arith, length-drop p.at bs, hk.past, hk.within, size) in
          λ m f. rw (hk.field f, kind_there n known, fields_short m f n (kind_at n) (drop p.at bs) l)

      pub found : (x : ℕ) (r : Record) → end ≤ length bs → x ≡ from_bits (take (end - p.at) (drop p.at bs)) → words_of r ≡ fields_in n x
          → Found bs at r (record { at = end })
      unfolding take_row take_fields row_of fields_in
      found x r h e w =
          let one : ℕ = width (kind_at n).one in
          let two : ℕ = width (kind_at n).two in
          let three : ℕ = width (kind_at n).three in
          let b : List Bool = drop p.at bs in
          let b1 : List Bool = drop one b in
          let b2 : List Bool = drop two b1 in
          let s : end - p.at ≡ one + two + three = omega (arith, hk.past, size) in
          let l : one + two + three ≤ length b = omega (arith, length-drop p.at bs, hk.past, size) in
          let q : p.at + one + two + three ≡ end = omega (arith, hk.past, size) in
          let kd : r.kind ≡ n = ap (λ (v : Words). v.kind) w in
          record {
            taken = λ m f. rw (
              w ∙ together n x (end - p.at) b s (omega arith) e,
              kd,
              hk.field f,
              kind_there n known,
              field_there f one b (omega arith),
              field_there f two b1 (omega (arith, length-drop one b)),
              field_there f three b2 (omega (arith, length-drop one b, length-drop two b1)),
              drop-drop one p.at bs,
              drop-drop two (p.at + one) bs,
              drop-drop three (p.at + one + two) bs,
              q,
            );
            near = omega (arith, is, row_le n known);
            within = h;
          }

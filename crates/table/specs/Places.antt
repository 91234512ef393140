-- A field taken at a bit place. A cursor is the paper's reader without its bytes.
use Rattle.std.specs.Prelude.{ℕ, ◌+◌, ◌*◌, Bool, ◌&&◌, List, leb, length, take, drop, Option, Some, None}
use Rattle.table.specs.declared.Cursor.{Cursor}
use Rattle.table.specs.declared.refusal.Refusal.TheVariants.{CutShort}
use Rattle.table.specs.Answers.{Result, good, refused, unless}
use Rattle.table.specs.Bits.{from_bits}

-- the bits of the longest record, and the place after the longest table: its count and 64 records
abbrev pub longest_record : ℕ
longest_record = 61

abbrev pub last_place : ℕ
last_place = 8 + 64 * longest_record

-- the widest field
abbrev pub widest : ℕ
widest = 32

-- a field, and the place after it
pub record FieldAt : Type 0 where
  pub field : ℕ
  pub next : ℕ

-- the field of w bits at a place; 12 where the bits end before, past the last place, and for a width above 32
unfoldable pub take_at_bit : List Bool → ℕ → ℕ → Result FieldAt
take_at_bit bs at w =
    unless (leb at last_place && (leb w widest && leb (at + w) (length bs))) CutShort 0
    (good record { field = from_bits (take w (drop at bs)); next = at + w })

-- what each case of a taking says
abbrev pub taking_parts : Option (ℕ × Cursor) → Result FieldAt
taking_parts (Some (x, p)) = good record { field = x; next = p.at }
taking_parts None = refused CutShort 0

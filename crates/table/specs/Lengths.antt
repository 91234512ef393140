-- The bits of a packed row, from a constant list by kind. Proved in proofs/Lengths.
use Rattle.std.specs.Prelude.{◌≡◌, ℕ, ◌+◌, ◌<◌, ◌≤◌, List, [], ◌∷◌, length, get_or}
use Rattle.table.specs.Rows.{width, kind_at, kind_count, Words}
use Rattle.table.specs.Packed.{kind_width, row_bits}
use Rattle.table.specs.Places.{longest_record}

-- the bits of the kind's number, and the widths of the kind's fields
unfoldable pub row_length : ℕ → ℕ
row_length k = kind_width + width (kind_at k).one + width (kind_at k).two + width (kind_at k).three

-- kinds 0 to 18
abbrev pub record_lengths : List ℕ
record_lengths = 29 ∷ 61 ∷ 17 ∷ 17 ∷ 17 ∷ 17 ∷ 17 ∷ 49 ∷ 29 ∷ 17 ∷ 23 ∷ 55 ∷ 11 ∷ 17 ∷ 17 ∷ 23 ∷ 5 ∷ 29 ∷ 29 ∷ []

pub record Lengths : Type 0 where
  -- an entry for each kind, which is 5 bits and the widths of the kind's fields
  pub each_kind : length record_lengths ≡ kind_count
  pub entry : (k : ℕ) → k < kind_count → get_or record_lengths k 0 ≡ row_length k
  -- and is as long as a packed row of that kind
  pub row : (w : Words) → w.kind < kind_count → length (row_bits w) ≡ get_or record_lengths w.kind 0
  -- the longest record has the greatest entry
  pub at_most : (k : ℕ) → k < kind_count → get_or record_lengths k 0 ≤ longest_record
  pub greatest : (k : ℕ) × (k < kind_count) × (get_or record_lengths k 0 ≡ longest_record)

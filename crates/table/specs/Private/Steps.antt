-- What the code's steps over the packed form are held to.
use Rattle.std.specs.Prelude.{◌≡◌, ℕ, ◌+◌, ◌*◌, ◌≤◌, Bool, List, length, take, drop}
use Rattle.table.specs.declared.Cursor.{Cursor}
use Rattle.table.specs.declared.Record.{Record}
use Rattle.table.specs.declared.refusal.Refused.{Refused}
use Rattle.std.specs.Prelude as std
use Rattle.table.specs.declared.refusal.Refusal.TheVariants.{BadFilling}
use Rattle.table.specs.Answers.{Result, good, refused, unless, then, named}
use Rattle.table.specs.Rows.{Words, row_of, row_size}
use Rattle.table.specs.Packed.{take_row, take_rows, filling, count_width}
use Rattle.table.specs.Plain.{words_of, joined}
use Rattle.table.specs.Places.{last_place, longest_record}

-- the row at a place of the bits: its words, whose test is still to come, and the place after it
pub record Found (bs : List Bool) (at : ℕ) (r : Record) (p : Cursor) : Type 0 where
  pub taken : (m f : ℕ) → take_row m f (drop at bs) ≡ then (row_of m f (words_of r)) λ x. good (record { words = words_of r; rest = drop p.at bs })
  pub near : p.at ≤ at + longest_record
  pub within : p.at ≤ length bs

-- or no row, and why
abbrev pub Stepped : List Bool → ℕ → ℕ → std.Result (Record × Cursor) Refused → Type 0
Stepped bs at row (std.Ok (r, p)) = Found bs at r p
Stepped bs at row (std.Err e) = (e ≡ named e.why row) × ((m f : ℕ) → take_row m f (drop at bs) ≡ refused e.why f)

-- after the rows of a table of m flows, whose words were stored: what is left is to be its filling
pub record Ended (bs : List Bool) (m : ℕ) (words : List ℕ) (p : Cursor) : Type 0 where
  pub rows : List Words
  pub stored : take (row_size * m) words ≡ joined rows
  pub left : take_rows m m 0 (drop count_width bs) ≡ unless (filling (drop p.at bs)) BadFilling 0 (good rows)
  pub near : p.at ≤ last_place
  pub within : p.at ≤ length bs

-- a refusal as it is answered
pub record Stop {A : Type 0} (r : Result A) (e : Refused) : Type 0 where
  pub is : e ≡ named e.why e.flow
  pub comes : r ≡ refused e.why e.flow

abbrev pub Scanned : List Bool → ℕ → List ℕ → std.Result Cursor Refused → Type 0
Scanned bs m words (std.Ok p) = Ended bs m words p
Scanned bs m words (std.Err e) = Stop (take_rows m m 0 (drop count_width bs)) e

-- a table of m flows, whose words were stored
pub record Whole (r : Result (List Words)) (words : List ℕ) (m : ℕ) : Type 0 where
  pub rows : List Words
  pub is : r ≡ good rows
  pub size : length rows ≡ m
  pub stored : take (row_size * m) words ≡ joined rows

abbrev pub Unpacked : Result (List Words) → List ℕ → std.Result ℕ Refused → Type 0
Unpacked r words (std.Ok m) = Whole r words m
Unpacked r words (std.Err e) = Stop r e

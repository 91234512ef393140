-- The constant list of record lengths is that of the definitions, by one computed test of all its entries. Assumes nothing.
use mathlib.Core.Path.{◌≡◌, refl, sym, ◌∙◌}
use mathlib.Core.Bool.{true}
use Prim.Native.Nat.{ℕ, ◌<◌, ◌≤◌}
use native.Mathlib.Omega.{arith}
use lib.Dec.{eqb, leb}
use lib.ListN.{length, get_or, length-append}
use borrow.Author.Tests.{leb-true}
use Rattle.table.specs.Rows.{Kind, kinds, kind_at, kind_count, Words}
use Rattle.table.specs.Packed.{row_bits}
use Rattle.table.specs.Places.{longest_record}
use Rattle.table.specs.Lengths.{row_length, record_lengths, Lengths}
use Rattle.table.proofs.BitLaws.{length_to_bits}
use Rattle.table.proofs.Entries.{every, at, tabled, kind_there}

all_right : every (λ k x. eqb x (row_length k)) 0 record_lengths ≡ true
unfolding kinds row_length
all_right = refl

pub length_at : (k : ℕ) → k < kind_count → get_or record_lengths k 0 ≡ row_length k
length_at k h = tabled row_length record_lengths all_right k h

at_most : (k : ℕ) → k < kind_count → get_or record_lengths k 0 ≤ longest_record
at_most k h = leb-true _ longest_record (at (λ k x. leb x longest_record) record_lengths 0 refl k h)

-- no record is longer than the longest
pub row_le : (k : ℕ) → k < kind_count → row_length k ≤ longest_record
row_le k h = rw (← length_at k h) (at_most k h)

-- the size of a packed row
pub row_size_lem : (w : Words) → w.kind < kind_count → length (row_bits w) ≡ row_length w.kind
unfolding row_bits row_length
row_size_lem w h =
    let k : Kind = kind_at w.kind in
    rw (kind_there w.kind h)
    (simp (length-append, length_to_bits) (omega arith))

pub lengths : Lengths
lengths = record {
  each_kind = refl;
  entry = length_at;
  row = λ w h. row_size_lem w h ∙ sym (length_at w.kind h);
  at_most = at_most;
  greatest = (1, omega arith, refl);
}

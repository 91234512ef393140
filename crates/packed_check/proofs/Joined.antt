-- Reading and then the check, joined. Assumes nothing.
use mathlib.Core.Path.{◌≡◌, refl, sym, ◌∙◌, ap}
use Prim.Native.Nat.{ℕ, ◌*◌, ◌≤◌}
use native.Mathlib.Omega.{arith}
use mathlib.Core.List.{List, ◌++◌}
use lib.ListN.{length, take, drop}
use lib.Seq.{take_at}
use lib.Dec.{leb}
use borrow.Author.Tests.{le-leb}
use Rattle.std.specs.Prelude.{Ok, Err}
use Rattle.table.specs.declared.refusal.Refused.{Refused}
use Rattle.table.specs.declared.refusal.Refusal.{Refusal}
use Rattle.table.specs.declared.refusal.Refusal.TheVariants.{NoRoom}
use Rattle.table.specs.Answers.{Result, good, refused, unless, then, leaves, parts, refusal}
use Rattle.table.specs.Rows.{Words, max_flows, row_size}
use Rattle.table.specs.Plain.{joined}
use Rattle.table.specs.Packed.{unpacked, reading, read_answer, words_after}
use Rattle.table.proofs.Tests.{unless_good, then_good}
use Rattle.table.proofs.AnswerLaws.{told_ok, told_err}
use Rattle.table.proofs.ReadLaws.{opened}
use Rattle.table.proofs.PlainRows.{length_joined}
use Rattle.checker.specs.Clocks.{Clock}
use Rattle.checker.specs.Answers.{checking}
use Rattle.packed_check.specs.Checked.{checked_in}

-- WHAT READING GAVE
-- The rows of the packed bytes, how many there are, and their words in the buffer.
pub record ReadInto (bs : List ℕ) (n : ℕ) (new : List ℕ) : Type 0 where
  pub rows : List Words
  pub unpacks : unpacked bs ≡ good rows
  pub count : n ≡ length rows
  pub words : take (row_size * n) new ≡ joined rows

pub read_into : (bs old : List ℕ) {new : List ℕ} (n : ℕ) → parts (Ok n) ≡ read_answer bs (length old) → new ≡ words_after bs old → ReadInto bs n new
unfolding reading
read_into bs old {new} n e h =
    let a = told_ok length (reading bs (length old)) n e in
    let ws : List Words = a.0 in
    let u = then_good (unpacked bs) (λ rows. unless (leb (row_size * length rows) (length old)) NoRoom 0 (good rows)) ws a.1.0 in
    let w : new ≡ joined ws ++ drop (length (joined ws)) old = h ∙ ap (λ (x : Result (List Words)). leaves joined x old) a.1.0 in
    record {
      rows = ws;
      unpacks = u.1 ∙ (unless_good (leb (row_size * length u.0) (length old)) NoRoom 0 (good u.0) ws u.2).1;
      count = a.1.1;
      words = ap (take (row_size * n)) w ∙ take_at (joined ws) (drop (length (joined ws)) old) (row_size * n) (length_joined ws ∙ ap (λ (i : ℕ). row_size * i) (sym a.1.1));
    }

pub read_few : (bs : List ℕ) (n : ℕ) {new : List ℕ} → ReadInto bs n new → n ≤ max_flows
read_few bs n r = omega (arith, r.count, (opened bs r.rows r.unpacks).few)

-- the words of the most rows are room for any table, so a refusal is one of the bytes
reading_whole : (bs : List ℕ) → reading bs (row_size * max_flows) ≡ unpacked bs
unfolding reading
reading_whole bs = go (unpacked bs) refl
  where
    go : (r : Result (List Words)) → unpacked bs ≡ r → then r (λ ws. unless (leb (row_size * length ws) (row_size * max_flows)) NoRoom 0 (good ws)) ≡ r
    go (good ws) e = let h : row_size * length ws ≤ row_size * max_flows = omega (arith, (opened bs ws e).few) in rw (le-leb (row_size * length ws) (row_size * max_flows) h)
    go (refused why f) e = refl

-- its refusal is that of the bytes, and names no tick
pub read_refused : (bs : List ℕ) (x : Refused) → parts (Err x) ≡ read_answer bs (row_size * max_flows)
    → (unpacked bs ≡ refused x.why x.flow) × (parts (Err x) ≡ refusal x.why x.flow)
read_refused bs x e =
    let r = told_err length (reading bs (row_size * max_flows)) x e in
    (sym (reading_whole bs) ∙ r.0, ap (λ (y : Refused). parts (Err y)) r.1)

-- BOTH TOGETHER
pub checked_refused : (bs : List ℕ) (room : ℕ) (why : Refusal) (f : ℕ) → unpacked bs ≡ refused why f → checked_in bs room ≡ refused why f
unfolding checked_in
checked_refused bs room why f e = rw e

-- the check of the words that were read
pub checked_words : (bs : List ℕ) (n : ℕ) (new : List ℕ) (room : ℕ) → ReadInto bs n new → checking n (take (row_size * n) new) room ≡ checked_in bs room
unfolding checked_in
checked_words bs n new room r = rw (r.words, r.unpacks, r.count)

-- the rows whose clocks were found
pub checked_good : (bs : List ℕ) (room : ℕ) (ks : List Clock) → checked_in bs room ≡ good ks
    → (ws : List Words) × (unpacked bs ≡ good ws) × (checking (length ws) (joined ws) room ≡ good ks)
unfolding checked_in
checked_good bs room ks e = then_good (unpacked bs) (λ ws. checking (length ws) (joined ws) room) ks e

-- Wish 6 of the calls. Assumes nothing.
use mathlib.Core.Path.{◌≡◌, sym, ◌∙◌, ap}
use Prim.Native.Nat.{ℕ, ◌*◌, ◌≤◌, ◌<◌}
use native.Mathlib.Omega.{arith}
use mathlib.Core.List.{List}
use lib.ListN.{length}
use borrow.Author.Tests.{eq-eqb, le-leb}
use Rattle.table.specs.declared.refusal.Refusal.{Refusal}
use Rattle.table.specs.declared.refusal.Refusal.TheVariants.{ClocksDiffer}
use Rattle.table.specs.Answers.{Result, good, refused, then, over, answer, leaves, number, success}
use Rattle.table.specs.Rows.{Row, row_size}
use Rattle.table.specs.Plain.{table_of, joined}
use Rattle.table.proofs.AnswerLaws.{number_inj}
use Rattle.table.proofs.Tables.{Table, table_made}
use Rattle.checker.specs.Clocks.{Clock}
use Rattle.checker.specs.Rules.{clocks_of}
use Rattle.checker.specs.Answers.{check_number}
use Rattle.checker.proofs.Bounds.{check_number_lem}
use Rattle.reach.specs.Sets.{Flows}
use Rattle.least.specs.Parts.{part_rows, part_flows, part_count, LeastPart}
use Rattle.least.specs.Answers.{least_set, seeking, offering, least_answer, part_after, flows_answer, flows_after}
use Rattle.least.specs.Given.{Given}
use Rattle.least.proofs.Chosen.{chosen_length}
use Rattle.least.proofs.PartTables.{rows_count}
use Rattle.least.proofs.SamePart.{count_same, rows_same, flows_same}
use Rattle.least.proofs.LeastParts as LeastParts

-- the plan that the check answers with 21
pub plan_refused : (m : ℕ) (words : List ℕ) (rows : List Row) → table_of m words ≡ good rows → check_number m words ≡ number ClocksDiffer → (g : ℕ) × (clocks_of rows ≡ refused ClocksDiffer g)
plan_refused m words rows e d = go (clocks_of rows) (ap (λ (r : Result (List Row)). (answer length (then r clocks_of)).number) (sym e) ∙ sym (check_number_lem m words) ∙ d)
  where
    go : (r : Result (List Clock)) → (answer length r).number ≡ number ClocksDiffer → (g : ℕ) × (r ≡ refused ClocksDiffer g)
    go (good ks) h = absurd (omega arith)
    go (refused why g) h = (g, ap (λ (y : Refusal). refused y g) (number_inj why ClocksDiffer h))

module _ (m : ℕ) (words : List ℕ) (rows : List Row) (e : table_of m words ≡ good rows) (d : check_number m words ≡ number ClocksDiffer) where
  t : Table m words rows
  t = table_made m words rows e

  pub least_there : LeastPart m words (least_set m words)
  least_there = let g = plan_refused m words rows e d in LeastParts.least_part m words rows t g.0 g.1

  pub sought : seeking m words ≡ good (least_set m words)
  unfolding seeking
  sought = rw (e, eq-eqb _ _ d)

  -- any least part is the one that is given
  module _ (s : Flows) (p : LeastPart m words s) (old : List ℕ) where
    same : (f : ℕ) → f < m → least_set m words f ≡ s f
    same = LeastParts.one_part m words rows t (least_set m words) s least_there p

    count : part_count m (least_set m words) ≡ part_count m s
    count = count_same (least_set m words) s m same

    fits : {A : Type 0} (size : ℕ) (make : Flows → List A) → make (least_set m words) ≡ make s → size * part_count m s ≤ length old → offering size make m words (length old) ≡ good (make s)
    unfolding offering
    fits size make e l =
        rw (sought, le-leb (size * part_count m (least_set m words)) (length old) (omega (arith, l, ap (λ (i : ℕ). size * i) count))) (ap good e)

    -- so a call counts its flows, and leaves what it makes of it
    called : {A : Type 0} (size : ℕ) (make : Flows → List A) (cells : List A → List ℕ) → make (least_set m words) ≡ make s → length (make s) ≡ part_count m s → size * part_count m s ≤ length old
        → (answer length (offering size make m words (length old)) ≡ success (part_count m s)) × (leaves cells (offering size make m words (length old)) old ≡ over (cells (make s)) old)
    called {A} size make cells e n l =
        let r = fits size make e l in
        (ap (answer length) r ∙ ap success n, ap (λ (v : Result (List A)). leaves cells v old) r)

    rows_given : row_size * part_count m s ≤ length old
        → (least_answer m words (length old) ≡ success (part_count m s)) × (part_after m words old ≡ over (joined (part_rows m words s)) old)
    rows_given l = called row_size (part_rows m words) joined (rows_same m words rows t (least_set m words) s same) (rows_count words s m) l

    flows_given : part_count m s ≤ length old → (flows_answer m words (length old) ≡ success (part_count m s)) × (flows_after m words old ≡ over (part_flows m s) old)
    flows_given l = called 1 (part_flows m) (λ (flows : List ℕ). flows) (flows_same (least_set m words) s m same) (chosen_length s (λ f. f) m) (omega arith)

pub given : Given
given = record {
  there = λ m words rows e d. (least_set m words, least_there m words rows e d);
  only = λ m words rows s u e p q. LeastParts.one_part m words rows (table_made m words rows e) s u p q;
  rows = λ m words old plan s e d p. rows_given m words plan e d s p old;
  flows = λ m words old plan s e d p. flows_given m words plan e d s p old;
}

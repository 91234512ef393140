-- What the call answers and leaves, by what the test of the table told. Assumes nothing.
use mathlib.Core.Path.{◌≡◌, sym, ◌∙◌, ap}
use mathlib.Core.Bool.{true}
use Prim.Native.Nat.{ℕ, ◌≤◌, ◌<◌}
use mathlib.Core.List.{List, ◌++◌}
use lib.ListN.{length, drop}
use borrow.Author.Tests.{lt-leb}
use Rattle.std.specs.Prelude.{Ok, Err}
use Rattle.table.specs.declared.refusal.Refused.{Refused}
use Rattle.table.specs.declared.refusal.Refusal.{Refusal}
use Rattle.table.specs.declared.refusal.Refusal.TheVariants.{NoRoom}
use Rattle.table.specs.Answers.{good, refused, success, refusal, parts, answer}
use Rattle.table.specs.Rows.{Row}
use Rattle.table.specs.Plain.{table_of, rows_in, plain_answer}
use Rattle.table.proofs.AnswerLaws.{told_ok, told_err, refused_leaves}
use Rattle.table.proofs.Tables.{rows_good}
use Rattle.reach.specs.Reach.{sets_of, reaching, reach_answer, sets_after}
use Rattle.reach.specs.Private.Steps.{IsTable}
use Rattle.reach.proofs.SetLists.{sets_length}
use Rattle.reach.proofs.Closures.{reach_told}

no_table : (m : ℕ) (words : List ℕ) (room : ℕ) (why : Refusal) (f : ℕ) → table_of m words ≡ refused why f → reaching m words room ≡ refused why f
unfolding reaching
no_table m words room why f e = rw e

too_small : (m : ℕ) (words : List ℕ) (room : ℕ) (rows : List Row) → table_of m words ≡ good rows → room < m → reaching m words room ≡ refused NoRoom 0
unfolding reaching
too_small m words room rows e l = rw (e, lt-leb m room l)

module _ (m : ℕ) (words old : List ℕ) where
  pub handed_on : (r : Refused) → parts (Err r) ≡ plain_answer m words → (parts (Err r) ≡ reach_answer m words (length old)) × (old ≡ sets_after m words old)
  handed_on r told =
      let o = told_err length (table_of m words) r told in
      let e = refused_leaves length (λ (sets : List ℕ). sets) (reaching m words (length old)) old r.why r.flow (no_table m words (length old) r.why r.flow o.0) in
      (told ∙ ap (answer length) o.0 ∙ e.0, e.1)

  pub is_table : (n : ℕ) → parts (Ok n) ≡ plain_answer m words → IsTable m words
  is_table n told = let z = told_ok length (table_of m words) n told in rows_good true m words z.0 z.1.0

  module _ (t : IsTable m words) where
    pub no_room_lem : length old < m → (refusal NoRoom 0 ≡ reach_answer m words (length old)) × (old ≡ sets_after m words old)
    no_room_lem l =
        refused_leaves length (λ (sets : List ℕ). sets) (reaching m words (length old)) old NoRoom 0 (too_small m words (length old) (rows_in (table_of m words)) t l)

    pub done : (cells : List ℕ) → m ≤ length old → cells ≡ sets_of m words m → (success m ≡ reach_answer m words (length old)) × (cells ++ drop m old ≡ sets_after m words old)
    done cells l x =
        let e : reaching m words (length old) ≡ good (sets_of m words m) = reach_told m words (length old) (rows_in (table_of m words)) t l in
        (ap success (sym (sets_length m words m)) ∙ ap (answer length) (sym e), rw (e, x, sets_length m words m))

-- The flows and the rows of a part, laid down one after the other. Assumes nothing.
use mathlib.Core.Path.{◌≡◌, refl, sym, ◌∙◌, ap}
use Prim.Native.Nat.{ℕ, suc, ◌+◌, ◌*◌, ◌≤◌, ◌<◌}
use native.Mathlib.Numerals.{add-one}
use native.Mathlib.Omega.{arith}
use mathlib.Core.Bool.{true, false}
use mathlib.Core.List.{List, [], ◌∷◌, ◌++◌}
use lib.ListN.{length, set}
use Rattle.table.specs.Answers.{over}
use Rattle.table.specs.Rows.{Words, row_size}
use Rattle.table.specs.Plain.{row_words, joined, put_row}
use Rattle.table.proofs.AnswerLaws.{set_over}
use Rattle.table.proofs.PlainRows.{put_next}
use Rattle.reach.specs.Sets.{Flows}
use Rattle.least.specs.Parts.{below, renumbered_row, chosen, part_rows, part_flows}
use Rattle.least.proofs.Numbers.{below_in, below_out}
use Rattle.least.proofs.Chosen.{chosen_in, chosen_out, chosen_length}
use Rattle.least.proofs.PartTables.{rows_count}

-- what has been laid down of the flows below f
pub record Stored (s : Flows) (laid : ℕ → List ℕ) (old : List ℕ) (at f : ℕ) (new : List ℕ) : Type 0 where
  pub count : at ≡ below s f
  pub is : new ≡ over (laid f) old

module _ (s : Flows) (laid : ℕ → List ℕ) (old : List ℕ) where
  stored_none : laid 0 ≡ [] → Stored s laid old 0 0 old
  unfolding below
  stored_none e = record { count = refl; is = ap (λ (l : List ℕ). over l old) (sym e) }

  module _ (at f : ℕ) (new : List ℕ) (t : Stored s laid old at f new) where
    -- flow f is one of the part's, or not
    stored_in : s f ≡ true → (new' : List ℕ) → new' ≡ over (laid (suc f)) old → Stored s laid old (at + 1) (f + 1) new'
    stored_in e new' x = rw (add-one f) record { count = omega (arith, below_in s f e, t.count); is = x }

    stored_out : s f ≡ false → laid (suc f) ≡ laid f → Stored s laid old at (f + 1) new
    stored_out e x = rw (add-one f) record { count = t.count ∙ sym (below_out s f e); is = t.is ∙ ap (λ (l : List ℕ). over l old) (sym x) }

-- flows
abbrev pub flows_laid : Flows → ℕ → List ℕ
flows_laid s i = part_flows i s

module _ (s : Flows) (old : List ℕ) where
  pub flows_none : Stored s (flows_laid s) old 0 0 old
  unfolding chosen
  flows_none = stored_none s (flows_laid s) old refl

  module _ (at f : ℕ) (new : List ℕ) (t : Stored s (flows_laid s) old at f new) where
    pub flows_in : s f ≡ true → at < length old → Stored s (flows_laid s) old (at + 1) (f + 1) (set new at f)
    flows_in e room =
        stored_in s (flows_laid s) old at f new t e (set new at f)
        (ap (λ (l : List ℕ). set l at f) t.is ∙ set_over (flows_laid s f) old at f (chosen_length s (λ g. g) f ∙ sym t.count) room
        ∙ ap (λ (l : List ℕ). over l old) (sym (chosen_in s (λ g. g) f e)))

    pub flows_out : s f ≡ false → Stored s (flows_laid s) old at (f + 1) new
    flows_out e = stored_out s (flows_laid s) old at f new t e (chosen_out s (λ g. g) f e)

-- rows
abbrev pub rows_laid : List ℕ → Flows → ℕ → List ℕ
rows_laid words s i = joined (part_rows i words s)

module _ (words : List ℕ) (s : Flows) (old : List ℕ) where
  pub rows_none : Stored s (rows_laid words s) old 0 0 old
  unfolding chosen joined
  rows_none = stored_none s (rows_laid words s) old refl

  module _ (at f : ℕ) (new : List ℕ) (t : Stored s (rows_laid words s) old at f new) where
    pub rows_in : s f ≡ true → row_size * at + row_size ≤ length new → (w : Words) → w ≡ renumbered_row s (row_words words f)
        → Stored s (rows_laid words s) old (at + 1) (f + 1) (put_row at w new)
    rows_in e room w x =
        stored_in s (rows_laid words s) old at f new t e (put_row at w new)
        (put_next (part_rows f words s) w old new at (rows_count words s f ∙ sym t.count) t.is room
        ∙ ap (λ (l : List Words). over (joined l) old)
        (ap (λ (v : Words). part_rows f words s ++ (v ∷ [])) x ∙ sym (chosen_in s (λ g. renumbered_row s (row_words words g)) f e)))

    pub rows_out : s f ≡ false → Stored s (rows_laid words s) old at (f + 1) new
    rows_out e = stored_out s (rows_laid words s) old at f new t e (ap joined (chosen_out s (λ g. renumbered_row s (row_words words g)) f e))

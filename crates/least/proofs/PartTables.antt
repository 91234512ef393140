-- A part of a table is a table, and what the check answers for it; the whole plan is a part of itself. Assumes nothing.
use mathlib.Core.Path.{◌≡◌, refl, sym, ◌∙◌, ap, ap₂, subst}
use Prim.Native.Nat.{ℕ, zero, suc, ◌+◌, ◌*◌, ◌≤◌, ◌<◌}
use native.Mathlib.Omega.{arith}
use mathlib.Core.Bool.{true, ◌&&◌}
use mathlib.Core.List.{List, [], ◌∷◌, ◌++◌, map}
use lib.Dec.{eqb}
use lib.ListN.{length}
use lib.Seq.{take_all}
use borrow.Author.Tests.{le-leb, eq-eqb}
use Rattle.table.specs.declared.refusal.Refusal.{Refusal}
use Rattle.table.specs.declared.refusal.Refusal.TheVariants.{ClocksDiffer, BadCount}
use Rattle.table.specs.Answers.{Result, good, refused, then, number, answer}
use Rattle.table.specs.Rows.{Row, tail, Words, row_by, row_size, max_flows}
use Rattle.table.specs.Tables.{row_at}
use Rattle.table.specs.Plain.{row_words, split, joined, rows_from, count_fits, table_by, table_of}
use Rattle.table.proofs.Tests.{Tried, passed, failed, try, and_both, good_inj, not_good, then_good}
use Rattle.table.proofs.AnswerLaws.{number_inj}
use Rattle.table.proofs.PlainRows.{split_joined, length_joined}
use Rattle.table.proofs.Tables.{Table}
use Rattle.checker.specs.Clocks.{Condition, Clock, every}
use Rattle.checker.specs.Rules.{clock_at, clocks_of}
use Rattle.checker.specs.Answers.{clocks_for}
use Rattle.checker.proofs.Bounds.{check_number_lem}
use Rattle.reach.specs.Sets.{Flows}
use Rattle.least.specs.Parts.{Part, below, renumbered_row, chosen, part_count, part_rows, Differs}
use Rattle.least.specs.PartChecks.{move_condition, move_clock, checked_part}
use Rattle.least.proofs.Numbers.{below_lt, below_le}
use Rattle.least.proofs.Chosen.{chosen_in, chosen_out, chosen_length, chosen_at, every_flow, below_every, chosen_every}
use Rattle.least.proofs.Renumbering.{renumber, renumber_same, row_of_part}
use Rattle.least.proofs.Outcomes.{Accepting, Refusing, Outcome, accepting, refusing, refused_in, outcome}
use Rattle.least.proofs.Carried.{moved_rows, moved_clocks, part_accepting, part_refusing}

-- one row more of a table
rows_next : (n f : ℕ) (ws : List Words) (rs : List Row) (w : Words) (r : Row) → rows_from true n f ws ≡ good rs → row_by true n (f + length ws) w ≡ good r
    → rows_from true n f (ws ++ (w ∷ [])) ≡ good (rs ++ (r ∷ []))
unfolding rows_from
rows_next n f [] rs w r e h =
    let z : f + 0 ≡ f = omega arith in
    let k : row_by true n f w ≡ good r = ap (λ (i : ℕ). row_by true n i w) (sym z) ∙ h in
    rw k (ap (λ (l : List Row). good (l ++ (r ∷ []))) (good_inj e))
rows_next n f (v ∷ ws) rs w r e h =
    let a = then_good (row_by true n f v) _ rs e in
    let b = then_good (rows_from true n (suc f) ws) (λ ys. good (a.0 ∷ ys)) rs a.2 in
    let z : f + suc (length ws) ≡ suc f + length ws = omega arith in
    let next = rows_next n (suc f) ws b.0 w r b.1 (ap (λ (i : ℕ). row_by true n i w) (sym z) ∙ h) in
    rw (a.1, next) (ap (λ (l : List Row). good (l ++ (r ∷ []))) (good_inj b.2))

-- how many rows a part has
pub rows_count : (words : List ℕ) (s : Flows) (n : ℕ) → length (part_rows n words s) ≡ below s n
rows_count words s n = chosen_length s (λ f. renumbered_row s (row_words words f)) n

pub words_count : (words : List ℕ) (s : Flows) (n : ℕ) → length (joined (part_rows n words s)) ≡ row_size * below s n
words_count words s n = length_joined (part_rows n words s) ∙ ap (λ (i : ℕ). row_size * i) (rows_count words s n)

no_flows : (words : List ℕ) → clocks_for 0 words ≡ refused BadCount 0
unfolding table_by
no_flows words = refl

module _ (m : ℕ) (words : List ℕ) (rows : List Row) (t : Table m words rows) where
  module _ (s : Flows) (part : Part m words s) where
    made : (n : ℕ) → n ≤ m → rows_from true (below s m) 0 (part_rows n words s) ≡ good (moved_rows m words rows t s part n)
    unfolding chosen rows_from
    made zero l = refl
    made (suc n) l = go (try (s n)) (made n (omega arith))
      where
        go : Tried (s n) → rows_from true (below s m) 0 (part_rows n words s) ≡ good (moved_rows m words rows t s part n)
            → rows_from true (below s m) 0 (part_rows (suc n) words s) ≡ good (moved_rows m words rows t s part (suc n))
        go (passed e) h =
            let z : 0 + length (part_rows n words s) ≡ below s n = omega (arith, rows_count words s n) in
            ap (rows_from true (below s m) 0) (chosen_in s (λ f. renumbered_row s (row_words words f)) n e)
            ∙ rows_next (below s m) 0 (part_rows n words s) (moved_rows m words rows t s part n) (renumbered_row s (row_words words n)) (renumber (below s) (row_at rows n)) h
            (ap (λ (i : ℕ). row_by true (below s m) i (renumbered_row s (row_words words n))) z
            ∙ row_of_part s m n (row_words words n) (row_at rows n) (t.taken n l) (t.row_at_lem n l) (λ x y. part n x l e y))
            ∙ ap good (sym (chosen_in s (λ f. renumber (below s) (row_at rows f)) n e))
        go (failed e) h =
            ap (rows_from true (below s m) 0) (chosen_out s (λ f. renumbered_row s (row_words words f)) n e) ∙ h ∙ ap good (sym (chosen_out s (λ f. renumber (below s) (row_at rows f)) n e))

    module _ (least : 1 ≤ part_count m s) where
      pub table_of_part : table_of (part_count m s) (joined (part_rows m words s)) ≡ good (moved_rows m words rows t s part m)
      unfolding table_by
      table_of_part =
          let c : (count_fits (below s m) && eqb (length (joined (part_rows m words s))) (row_size * below s m)) ≡ true =
          and_both (and_both (le-leb 1 (below s m) least) (le-leb (below s m) max_flows (omega (arith, below_le s m, t.few)))) (eq-eqb _ _ (words_count words s m)) in
          let p : split (below s m) (joined (part_rows m words s)) ≡ part_rows m words s =
          ap (λ (i : ℕ). split i (joined (part_rows m words s))) (sym (rows_count words s m)) ∙ split_joined (part_rows m words s) in
          rw (c, p) (made m (omega arith))

      part_checked : checked_part m words s ≡ clocks_of (moved_rows m words rows t s part m)
      part_checked = ap (λ (r : Result (List Row)). then r clocks_of) table_of_part

    -- a part has a flow where one of it is refused
    some_flow : (why : Refusal) (g : ℕ) → Refusing m rows s why g → 1 ≤ part_count m s
    some_flow why g r = let x = refused_in m rows s why g r in omega (arith, below_lt s g m x.0 x.1)

    pub refusing_part : (why : Refusal) (g : ℕ) → Refusing m rows s why g → checked_part m words s ≡ refused why (below s g)
    refusing_part why g r = part_checked (some_flow why g r) ∙ part_refusing m words rows t s part why g r

    pub accepting_part : 1 ≤ part_count m s → (a : Accepting m rows s) → checked_part m words s ≡ good (moved_clocks m words rows t s part a.clk m)
    accepting_part l a = part_checked l ∙ part_accepting m words rows t s part a

    -- it is answered with 21 exactly when a flow of it is refused so
    pub refusing_differs : (g : ℕ) → Refusing m rows s ClocksDiffer g → Differs m words s
    refusing_differs g r =
        check_number_lem (part_count m s) (joined (part_rows m words s)) ∙ ap (λ (r : Result (List Clock)). (answer length r).number) (refusing_part ClocksDiffer g r)

    pub differs_refusing : Differs m words s → (g : ℕ) × Refusing m rows s ClocksDiffer g
    differs_refusing d = counted (part_count m s) refl
      where
        told : (answer length (checked_part m words s)).number ≡ number ClocksDiffer
        told = sym (check_number_lem (part_count m s) (joined (part_rows m words s))) ∙ d

        go : 1 ≤ part_count m s → Outcome m rows s → (g : ℕ) × Refusing m rows s ClocksDiffer g
        go l (accepting a) = absurd (omega (arith, sym (ap (λ (r : Result (List Clock)). (answer length r).number) (accepting_part l a)) ∙ told))
        go l (refusing why g r) =
            let e : number why ≡ number ClocksDiffer = sym (ap (λ (r : Result (List Clock)). (answer length r).number) (refusing_part why g r)) ∙ told in
            (g, subst (λ (y : Refusal). Refusing m rows s y g) (number_inj why ClocksDiffer e) r)

        counted : (n : ℕ) → part_count m s ≡ n → (g : ℕ) × Refusing m rows s ClocksDiffer g
        counted zero z =
            absurd (let e : checked_part m words s ≡ refused BadCount 0 = ap (λ (i : ℕ). clocks_for i (joined (part_rows m words s))) z ∙ no_flows (joined (part_rows m words s)) in
            omega (arith, sym (ap (λ (r : Result (List Clock)). (answer length r).number) e) ∙ told))
        counted (suc n) z = go (omega arith) (outcome m words rows t s)

  -- ---- the whole plan

  whole : Part m words every_flow
  whole f g l e x = refl

  whole_rows : moved_rows m words rows t every_flow whole m ≡ rows
  whole_rows =
      chosen_every (tail 0) (λ f. renumber (below every_flow) (row_at rows f)) rows m (omega (arith, t.size)) (λ f l. renumber_same (below every_flow) (row_at rows f) below_every)
      ∙ take_all m rows (omega (arith, t.size))

  pub whole_refusing : (why : Refusal) (g : ℕ) → clocks_of rows ≡ refused why g → Refusing m rows every_flow why g
  whole_refusing why g e = go (outcome m words rows t every_flow)
    where
      go : Outcome m rows every_flow → Refusing m rows every_flow why g
      go (accepting a) = not_good (sym e ∙ ap clocks_of (sym whole_rows) ∙ part_accepting m words rows t every_flow whole a)
      go (refusing y h r) =
          let x : refused why g ≡ refused y (below every_flow h) = sym e ∙ ap clocks_of (sym whole_rows) ∙ part_refusing m words rows t every_flow whole y h r in
          let p : y ≡ why = cc in
          let q : below every_flow h ≡ g = cc in
          subst (Refusing m rows every_flow why) (sym (below_every h) ∙ q) (subst (λ (z : Refusal). Refusing m rows every_flow z h) p r)

  conditions_same : (cs : List Condition) → map (move_condition (below every_flow)) cs ≡ cs
  conditions_same [] = refl
  conditions_same (c ∷ cs) =
      ap₂ (λ (i : ℕ) (l : List Condition). let d : Condition = record { flow = i; truth = c.truth; view = c.view } in d ∷ l) (below_every c.flow) (conditions_same cs)

  clock_same : (k : Clock) → move_clock (below every_flow) k ≡ k
  clock_same k = ap (λ (cs : List Condition). let j : Clock = record { period = k.period; phase = k.phase; conditions = cs } in j) (conditions_same k.conditions)

  -- of an accepted plan, with the clocks that it has
  pub whole_accepting : (ks : List Clock) → clocks_of rows ≡ good ks → (a : Accepting m rows every_flow) × ((f : ℕ) → f < m → a.clk f ≡ clock_at ks f)
  whole_accepting ks e = go (outcome m words rows t every_flow)
    where
      go : Outcome m rows every_flow → (a : Accepting m rows every_flow) × ((f : ℕ) → f < m → a.clk f ≡ clock_at ks f)
      go (accepting a) = (a, at)
        where
          same : moved_clocks m words rows t every_flow whole a.clk m ≡ ks
          same = good_inj (sym (part_accepting m words rows t every_flow whole a) ∙ ap clocks_of whole_rows ∙ e)

          at : (f : ℕ) → f < m → a.clk f ≡ clock_at ks f
          at f l =
              sym (clock_same (a.clk f)) ∙ sym (chosen_at every_flow (λ g. move_clock (below every_flow) (a.clk g)) (every 1 0) m f l refl)
              ∙ ap₂ clock_at same (below_every f)
      go (refusing why g r) = not_good (sym (part_refusing m words rows t every_flow whole why g r) ∙ ap clocks_of whole_rows ∙ e)

-- The check of a part comes to what the check of its flows comes to in the plan's own numbers, renumbered. Assumes nothing.
use mathlib.Core.Path.{◌≡◌, refl, sym, ◌∙◌, ap, ap₂}
use Prim.Native.Nat.{ℕ, zero, suc, ◌+◌, ◌≤◌, ◌<◌}
use native.Mathlib.Omega.{arith}
use mathlib.Core.Bool.{Bool, true, false}
use mathlib.Core.List.{List, [], ◌∷◌, ◌++◌}
use mathlib.Core.Option.{Option, none, some}
use lib.ListN.{length}
use Rattle.table.specs.declared.refusal.Refusal.{Refusal}
use Rattle.table.specs.Answers.{good, refused}
use Rattle.table.specs.Rows.{Row, operand, on_register, bad_register}
use Rattle.table.specs.Tables.{row_at, RowHas, Linked}
use Rattle.table.specs.Plain.{row_words}
use Rattle.table.proofs.Tests.{Tried, passed, failed, try}
use Rattle.table.proofs.Lists.{below_suc}
use Rattle.table.proofs.Registers.{register_same, bad_past}
use Rattle.table.proofs.Tables.{Table}
use Rattle.table.proofs.Linked.{linked}
use Rattle.checker.specs.Clocks.{Clock, every, same_clock}
use Rattle.checker.specs.Rules.{clock_of, clock_at, clocks_from, sourced, source_fits, clocks_of}
use Rattle.checker.proofs.CheckLaws.{clocks_past}
use Rattle.reach.specs.Sets.{Flows}
use Rattle.least.specs.Parts.{Part, below, chosen}
use Rattle.least.specs.PartChecks.{move_clock, move_result}
use Rattle.least.proofs.Chosen.{chosen_in, chosen_out, chosen_length, chosen_at, chosen_split}
use Rattle.least.proofs.Renumbering.{renumber, renumber_register, Member}
use Rattle.least.proofs.Moving.{Inside, clock_moved_same, clock_moved, inside_clock}
use Rattle.least.proofs.Outcomes.{fits, Known, Passing, Accepting, Refusing, by_rule, by_source}

-- steps of the check
clocks_good : (ks : List Clock) (r : Row) (rs : List Row) (k : Clock) → clock_of (clock_at ks) (length ks) r ≡ good k → clocks_from ks (r ∷ rs) ≡ clocks_from (ks ++ (k ∷ [])) rs
unfolding clocks_from
clocks_good ks r rs k e = rw e

clocks_stop : (ks : List Clock) (r : Row) (rs : List Row) (why : Refusal) (g : ℕ) → clock_of (clock_at ks) (length ks) r ≡ refused why g → clocks_from ks (r ∷ rs) ≡ refused why g
unfolding clocks_from
clocks_stop ks r rs why g e = rw e

clocks_none : (ks : List Clock) → clocks_from ks [] ≡ good ks
unfolding clocks_from
clocks_none ks = refl

bad_here : (test : ℕ → ℕ → Bool) (f : ℕ) (r : Row) (rs : List Row) → on_register test r ≡ false → bad_register test f (r ∷ rs) ≡ some f
unfolding bad_register
bad_here test f r rs e = rw e

bad_next : (test : ℕ → ℕ → Bool) (f : ℕ) (r : Row) → on_register test r ≡ true → bad_register test f (r ∷ []) ≡ none
unfolding bad_register
bad_next test f r e = rw e

bad_none : (test : ℕ → ℕ → Bool) (f : ℕ) → bad_register test f [] ≡ none
unfolding bad_register
bad_none test f = refl

module _ (m : ℕ) (words : List ℕ) (rows : List Row) (t : Table m words rows) (s : Flows) (part : Part m words s) where
  abbrev ρ : ℕ → ℕ
  ρ = below s

  -- the part's rows, and its clocks
  abbrev pub moved_rows : ℕ → List Row
  moved_rows n = chosen s (λ f. renumber ρ (row_at rows f)) n

  abbrev pub moved_clocks : (ℕ → Clock) → ℕ → List Clock
  moved_clocks clk n = chosen s (λ f. move_clock ρ (clk f)) n

  links : (f : ℕ) → f < m → s f ≡ true → RowHas (Linked (Member s) m f) (row_at rows f)
  links f l e = linked (row_words words f) (Member s) m f (row_at rows f) (t.row_at_lem f l) (λ x y. part f x l e y)

  module _ (clk : ℕ → Clock) where
    -- flow a's clock among those of the flows below n
    moved_at : (n a : ℕ) → a < n → s a ≡ true → clock_at (moved_clocks clk n) (ρ a) ≡ move_clock ρ (clk a)
    moved_at n a l e = chosen_at s (λ f. move_clock ρ (clk f)) (every 1 0) n a l e

    -- the rule of flow n, given the clocks below it in the plan and in the part
    module _ (n : ℕ) (l : n < m) (e : s n ≡ true) (inside : (a : ℕ) → a < n → s a ≡ true → Inside s (clk a).conditions)
        (clk' : ℕ → Clock) (both : (a : ℕ) → a < n → s a ≡ true → clk' (ρ a) ≡ move_clock ρ (clk a)) where
      agree : (a : ℕ) → Linked (Member s) m n operand a → clk' (ρ a) ≡ move_clock ρ (clk a)
      agree a x = both a x.0 (x.1 refl)

      within : (a : ℕ) → Linked (Member s) m n operand a → Inside s (clk a).conditions
      within a x = inside a x.0 (x.1 refl)

      member : (a : ℕ) → Linked (Member s) m n operand a → s a ≡ true
      member a x = x.1 refl

      pub row_moved : clock_of clk' (ρ n) (renumber ρ (row_at rows n)) ≡ move_result ρ (clock_of clk n (row_at rows n))
      row_moved = clock_moved s n (Linked (Member s) m n) clk clk' agree within member (row_at rows n) (links n l e)

      row_inside : (k : Clock) → clock_of clk n (row_at rows n) ≡ good k → Inside s k.conditions
      row_inside k v = inside_clock s n (Linked (Member s) m n) clk clk' agree within member (row_at rows n) k v (links n l e)

    -- the conditions of the set's clocks are on flows of it
    pub all_inside : (n : ℕ) → n ≤ m → Known m rows s clk n → (a : ℕ) → a < n → s a ≡ true → Inside s (clk a).conditions
    all_inside zero l h = λ a x. absurd (omega arith)
    all_inside (suc n) l h =
        let before = all_inside n (omega arith) (λ f x. h f (omega arith)) in
        below_suc (λ (a : ℕ). s a ≡ true → Inside s (clk a).conditions) n before (λ e. row_inside n l e before (clock_at (moved_clocks clk n)) (moved_at n) (clk n) (h n (omega arith) e))

    row_carried : (n : ℕ) → n < m → s n ≡ true → Known m rows s clk n
        → clock_of (clock_at (moved_clocks clk n)) (length (moved_clocks clk n)) (renumber ρ (row_at rows n)) ≡ move_result ρ (clock_of clk n (row_at rows n))
    row_carried n l e h =
        ap (λ (i : ℕ). clock_of (clock_at (moved_clocks clk n)) i (renumber ρ (row_at rows n))) (chosen_length s (λ f. move_clock ρ (clk f)) n)
        ∙ row_moved n l e (all_inside n (omega arith) h) (clock_at (moved_clocks clk n)) (moved_at n)

    clocks_carried : (n : ℕ) → n ≤ m → Known m rows s clk n → clocks_from [] (moved_rows n) ≡ good (moved_clocks clk n)
    unfolding chosen clocks_from
    clocks_carried zero l h = refl
    clocks_carried (suc n) l h = go (try (s n)) (clocks_carried n (omega arith) before)
      where
        before : Known m rows s clk n
        before f x = h f (omega arith)

        go : Tried (s n) → clocks_from [] (moved_rows n) ≡ good (moved_clocks clk n) → clocks_from [] (moved_rows (suc n)) ≡ good (moved_clocks clk (suc n))
        go (passed e) c =
            ap (clocks_from []) (chosen_in s (λ f. renumber ρ (row_at rows f)) n e)
            ∙ clocks_past [] (moved_rows n) (renumber ρ (row_at rows n) ∷ []) (moved_clocks clk n) c
            ∙ clocks_good (moved_clocks clk n) (renumber ρ (row_at rows n)) [] (move_clock ρ (clk n)) (row_carried n l e before ∙ ap (move_result ρ) (h n (omega arith) e))
            ∙ clocks_none (moved_clocks clk n ++ (move_clock ρ (clk n) ∷ [])) ∙ ap good (sym (chosen_in s (λ f. move_clock ρ (clk f)) n e))
        go (failed e) c =
            ap (clocks_from []) (chosen_out s (λ f. renumber ρ (row_at rows f)) n e) ∙ c ∙ ap good (sym (chosen_out s (λ f. move_clock ρ (clk f)) n e))

    -- the sources
    module _ (known : Known m rows s clk m) where
      abbrev test : ℕ → ℕ → Bool
      test = source_fits (moved_clocks clk m)

      fits_carried : (b a : ℕ) → b < m → s b ≡ true → a < m → s a ≡ true → test (ρ b) (ρ a) ≡ fits clk b a
      fits_carried b a p x q y =
          ap₂ same_clock (moved_at m a q y) (moved_at m b p x)
          ∙ clock_moved_same s (clk a) (clk b) (all_inside m (omega arith) known a q y) (all_inside m (omega arith) known b p x)

      register_carried : (f : ℕ) → f < m → s f ≡ true → on_register test (renumber ρ (row_at rows f)) ≡ on_register (fits clk) (row_at rows f)
      register_carried f l e =
          renumber_register ρ test (row_at rows f)
          ∙ register_same (Linked (Member s) m f) (λ b a. test (ρ b) (ρ a)) (fits clk) (row_at rows f) (links f l e)
          (λ b a p q. fits_carried b a (omega (arith, p.0)) (p.1 refl) q.0 (q.1 refl))

      none_bad : (n : ℕ) → n ≤ m → Passing m rows s clk n → bad_register test 0 (moved_rows n) ≡ none
      unfolding chosen
      none_bad zero l h = bad_none test 0
      none_bad (suc n) l h = go (try (s n)) (none_bad n (omega arith) (λ f x. h f (omega arith)))
        where
          go : Tried (s n) → bad_register test 0 (moved_rows n) ≡ none → bad_register test 0 (moved_rows (suc n)) ≡ none
          go (passed e) b =
              ap (bad_register test 0) (chosen_in s (λ f. renumber ρ (row_at rows f)) n e)
              ∙ bad_past test 0 (moved_rows n) (renumber ρ (row_at rows n) ∷ []) b
              ∙ bad_next test (0 + length (moved_rows n)) (renumber ρ (row_at rows n)) (register_carried n l e ∙ h n (omega arith) e)
          go (failed e) b = ap (bad_register test 0) (chosen_out s (λ f. renumber ρ (row_at rows f)) n e) ∙ b

      one_bad : (g : ℕ) → g < m → s g ≡ true → Passing m rows s clk g → on_register (fits clk) (row_at rows g) ≡ false → bad_register test 0 (moved_rows m) ≡ some (ρ g)
      one_bad g l e p r =
          let x = chosen_split s (λ f. renumber ρ (row_at rows f)) m g l e in
          let n : 0 + length (moved_rows g) ≡ ρ g = omega (arith, chosen_length s (λ f. renumber ρ (row_at rows f)) g) in
          ap (bad_register test 0) x.1
          ∙ bad_past test 0 (moved_rows g) (renumber ρ (row_at rows g) ∷ x.0) (none_bad g (omega arith) p)
          ∙ bad_here test (0 + length (moved_rows g)) (renumber ρ (row_at rows g)) x.0 (register_carried g l e ∙ r) ∙ ap some n

      sources_carried : (o : Option ℕ) → bad_register test 0 (moved_rows m) ≡ o → clocks_of (moved_rows m) ≡ sourced (moved_clocks clk m) o
      unfolding clocks_of
      sources_carried o e = rw (clocks_carried m (omega arith) known, e)

  -- THE CHECK OF A PART: accepted with its flows, and refused with the flow of it that is named, for the same cause
  pub part_accepting : (a : Accepting m rows s) → clocks_of (moved_rows m) ≡ good (moved_clocks a.clk m)
  part_accepting a = sources_carried a.clk a.known none (none_bad a.clk a.known m (omega arith) a.passing)

  pub part_refusing : (why : Refusal) (g : ℕ) → Refusing m rows s why g → clocks_of (moved_rows m) ≡ refused why (ρ g)
  unfolding clocks_of
  part_refusing why g (by_rule clk w h l e k r) =
      let x = chosen_split s (λ f. renumber ρ (row_at rows f)) m h l e in
      let c : clocks_from [] (moved_rows m) ≡ refused why (ρ g) =
      ap (clocks_from []) x.1
      ∙ clocks_past [] (moved_rows h) (renumber ρ (row_at rows h) ∷ x.0) (moved_clocks clk h) (clocks_carried clk h (omega arith) k)
      ∙ clocks_stop (moved_clocks clk h) (renumber ρ (row_at rows h)) x.0 why (ρ g)
      (row_carried clk h l e k ∙ ap (move_result ρ) r) in
      rw c
  part_refusing why g (by_source clk h l e k p r) = sources_carried clk k (some (ρ g)) (one_bad clk k g l e p r)

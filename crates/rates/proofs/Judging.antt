-- The rows of a filled table that the check accepts, and the rates of their clocks. Assumes nothing.
use mathlib.Core.Path.{◌≡◌, refl, sym, ◌∙◌, ap, subst}
use Prim.Native.Nat.{ℕ, zero, suc, ◌+◌, ◌*◌, ◌≤◌, ◌<◌}
use native.Mathlib.Decide.{dec_lt}
use native.Mathlib.Omega.{arith}
use mathlib.Core.Bool.{true, false, false≢true}
use mathlib.Core.List.{List}
use lib.Dec.{eqb}
use lib.ListN.{length, get_or-eq_default}
use lib.Seq.{get_or-drop}
use borrow.Author.Tests.{eqb-true, ne_eqb, leb-true}
use Rattle.table.specs.declared.FlowFields.{FlowFields}
use Rattle.table.specs.Answers.{Result, good}
use Rattle.table.specs.Rows.{Row, input, constant, Words, row_size, kinds, decode, unrated_kind, tail}
use Rattle.table.specs.Tables.{row_at}
use Rattle.table.specs.Plain.{row_words, joined, table_of, draft_of}
use Rattle.table.specs.Links.{flow_fields, names}
use Rattle.table.proofs.Tests.{Tried, passed, failed, try, not_good, then_good}
use Rattle.table.proofs.Lists.{Each, each_get}
use Rattle.table.proofs.Registers.{Passes}
use Rattle.table.proofs.AnswerLaws.{answer_zero}
use Rattle.table.proofs.Tables.{Made, row_fits, Table, table_made, TableBy, made_by}
use Rattle.table.proofs.Linked.{names_inside, words_have}
use Rattle.table.proofs.PlainRows.{per_length, per_entry, joined_row}
use Rattle.checker.specs.Clocks.{Clock}
use Rattle.checker.specs.Rules.{clock_of, clock_at, clocks_of, source_fits}
use Rattle.checker.specs.Answers.{clocks_for}
use Rattle.checker.proofs.Bounds.{check_number_lem}
use Rattle.checker.proofs.RuleLaws.{Rule, by_input, by_constant, rule_of_lem}
use Rattle.checker.proofs.CheckLaws.{Checked, fine, bad_row, bad_source, checked, Clocked, Sane, AllSane, all_sane}
use Rattle.reach.specs.Reach.{named}
use Rattle.rates.specs.Joins.{joined_by, rated}
use Rattle.rates.specs.Fillings.{Rate, filled_row, filled, Accepted}
use Rattle.rates.specs.Private.Spread.{rate_of, given, rise, fall, row_made, written}
use Rattle.rates.proofs.Joining.{joins_named, joins_have}
use Rattle.rates.proofs.Rising.{rate, Sourced, by_test, rises, falls}

-- ---- rows that name no flow

nameless : (w : Words) (x n : ℕ) → w.kind ≡ n → flow_fields n ≡ record { one = false; two = false; three = false } → names w x ≡ true → ⊥
nameless w x n e none h =
    let f : flow_fields w.kind ≡ record { one = false; two = false; three = false } = ap flow_fields e ∙ none in
    words_have (λ y. ⊥) w (
      λ o. false≢true (sym (ap (λ (s : FlowFields). s.one) f) ∙ o),
      λ o. false≢true (sym (ap (λ (s : FlowFields). s.two) f) ∙ o),
      λ o. false≢true (sym (ap (λ (s : FlowFields). s.three) f) ∙ o),
    ) x h

-- a row that names a flow is one of the draft
named_in_plan : (m : ℕ) (words : List ℕ) (f d : ℕ) → length words ≡ row_size * m → named words f d ≡ true → f < m
unfolding kinds
named_in_plan m words f d s h =
    elim (dec_lt f m) [
      | yes l ↦ l
      | no l ↦ (let z : 0 + row_size * f ≡ row_size * f = omega arith in
          absurd (nameless (row_words words f) d 0 (get_or-drop (row_size * f) words 0 0 ∙ get_or-eq_default words 0 {n = row_size * f + 0} (omega arith)) refl h))
    ]

-- flows that are joined are flows of the draft
pub joins_inside : (m : ℕ) (words : List ℕ) (rows : List Row) → draft_of m words ≡ good rows → (f d : ℕ) → joined_by words f d ≡ true → (f < m) × (d < m)
joins_inside m words rows e f d h =
    let t : TableBy false m words rows = made_by false m words rows e in
    let n : named words f d ≡ true = joins_named (row_words words f) d h in
    let l : f < m = named_in_plan m words f d t.words_size n in
    (l, names_inside m f (row_words words f) (row_at rows f) (omega arith) (t.row_at_lem f l) d n)

-- ---- an accepted filling

-- a row that names a flow is kept as it is
kept_named : (q : Rate) (w : Words) (d : ℕ) → names w d ≡ true → filled_row q w ≡ w
unfolding kinds
kept_named q w d h = go (try (eqb w.kind unrated_kind))
  where
    go : Tried (eqb w.kind unrated_kind) → filled_row q w ≡ w
    go (passed e) = absurd (nameless w d unrated_kind (eqb-true w.kind unrated_kind e) refl h)
    go (failed e) = rw e

-- a rated row too
kept_rated : (q : Rate) (w : Words) → rated w ≡ true → filled_row q w ≡ w
kept_rated q w h = rw (ne_eqb w.kind unrated_kind (λ e. omega (arith, leb-true w.kind 1 h)))

-- and has its rate written
rule_written : (clk : ℕ → Clock) (f n x y z : ℕ) (k : Clock) → Sane clk f k → n ≤ 1 → Rule clk (decode n x y z) k
    → rate k ≡ written (record { kind = n; one = x; two = y; three = z })
unfolding kinds
rule_written clk f zero x y z k s l h = go k s h
  where
    go : (k : Clock) → Sane clk f k → Rule clk (input x y) k → rate k ≡ given true x y
    go k s by_input = by_test f k true x y s refl refl refl
rule_written clk f (suc zero) x y z k s l h = go k s h
  where
    go : (k : Clock) → Sane clk f k → Rule clk (constant x y z) k → rate k ≡ given true y z
    go k s by_constant = by_test f k true y z s refl refl refl
rule_written clk f (suc (suc n)) x y z k s l h = absurd (omega arith)

-- What the check has found of it: clocks that the rules give to the filled rows.
pub record Judged (m : ℕ) (words : List ℕ) (rates : ℕ → Rate) : Type 0 where
  pub clk : ℕ → Clock
  pub made : (f : ℕ) → f < m → Made m f (filled_row (rates f) (row_words words f)) (row_made (filled_row (rates f) (row_words words f)))
  pub ruled : (f : ℕ) → f < m → Rule clk (row_made (filled_row (rates f) (row_words words f))) (clk f)
  pub sourced : (f : ℕ) → f < m → Sourced clk (row_made (filled_row (rates f) (row_words words f)))
  pub sane : AllSane clk m

module _ (m : ℕ) (words : List ℕ) (rates : ℕ → Rate) where
  row_filled : (f : ℕ) → f < m → row_words (joined (filled m words rates)) f ≡ filled_row (rates f) (row_words words f)
  row_filled f l =
      let make : ℕ → Words = λ g. filled_row (rates g) (row_words words g) in
      joined_row (filled m words rates) f (make f) (omega (arith, per_length make m)) ∙ per_entry make (make f) m f l

  found : (rows : List Row) (ks : List Clock) → Table m (joined (filled m words rates)) rows → Clocked (clock_at ks) 0 rows → Each (Passes (source_fits ks)) 0 rows
      → Judged m words rates
  found rows ks t c s = record {
    clk = clock_at ks;
    made = λ f l. subst (Made m f (filled_row (rates f) (row_words words f))) (sym (is f l)) (at_words f l);
    ruled = λ f l. rule_of_lem (clock_at ks) f _ (clock_at ks f) (at (λ g r. clock_of (clock_at ks) g r ≡ good (clock_at ks g)) f l c);
    sourced = λ f l. at (Passes (source_fits ks)) f l s;
    sane = subst (AllSane (clock_at ks)) t.size (all_sane (clock_at ks) m rows t.fits c);
  }
    where
      at_words : (f : ℕ) → f < m → Made m f (filled_row (rates f) (row_words words f)) (row_at rows f)
      at_words f l = subst (λ (w : Words). Made m f w (row_at rows f)) (row_filled f l) (t.row_at_lem f l)

      is : (f : ℕ) → f < m → row_made (filled_row (rates f) (row_words words f)) ≡ row_at rows f
      is f l = (at_words f l).row

      at : (P : ℕ → Row → Type 0) (f : ℕ) → f < m → Each P 0 rows → P f (row_made (filled_row (rates f) (row_words words f)))
      at P f l h = subst (P f) (sym (is f l)) (each_get P rows (tail 0) f (omega (arith, t.size)) h)

  pub judged : Accepted m words rates → Judged m words rates
  judged a =
      let ws : List ℕ = joined (filled m words rates) in
      let z = answer_zero length (clocks_for m ws) (sym (check_number_lem m ws) ∙ a) in
      let r = then_good (table_of m ws) clocks_of z.0 z.1 in
      let t : Table m ws r.0 = table_made m ws r.0 r.1 in
      go r.0 t (clocks_of r.0) (checked m r.0 t.fits) r.2
    where
      go : (rows : List Row) → Table m (joined (filled m words rates)) rows → (c : Result (List Clock)) → Checked rows c → {ks : List Clock} → c ≡ good ks → Judged m words rates
      go rows t c (fine ks n k s) e = found rows ks t k s
      go rows t c (bad_row ks why g front r back x k y) e = not_good e
      go rows t c (bad_source ks g front r back k x y) e = not_good e

-- The rate of a row's result and those of the flows with which it is joined; of a rated row; and of one that was filled in.
module _ (m : ℕ) (words : List ℕ) (rates : ℕ → Rate) (j : Judged m words rates) where
  module _ (f d : ℕ) (l : f < m) (h : joined_by words f d ≡ true) where
    kept : filled_row (rates f) (row_words words f) ≡ row_words words f
    kept = kept_named (rates f) (row_words words f) d (joins_named (row_words words f) d h)

    row : Row
    row = row_made (row_words words f)

    made : Made m f (row_words words f) row
    unfolding row
    made = subst (λ (w : Words). Made m f w (row_made w)) kept (j.made f l)

    ruled : Rule j.clk row (j.clk f)
    unfolding row
    ruled = subst (λ (w : Words). Rule j.clk (row_made w) (j.clk f)) kept (j.ruled f l)

    sourced : Sourced j.clk row
    unfolding row
    sourced = subst (λ (w : Words). Sourced j.clk (row_made w)) kept (j.sourced f l)

    pub up : rate (j.clk f) ≡ rise (row_made (row_words words f)) (rate (j.clk d))
    unfolding row
    up =
        joins_have (λ (i : ℕ). rate (j.clk f) ≡ rise row (rate (j.clk i))) m f (row_words words f) row made
        (rises j.clk m f row (j.clk f) ruled sourced (j.sane f l)) d h

    pub down : rate (j.clk d) ≡ fall (row_made (row_words words f)) (rate (j.clk f))
    unfolding row
    down =
        joins_have (λ (i : ℕ). rate (j.clk i) ≡ fall row (rate (j.clk f))) m f (row_words words f) row made
        (falls j.clk m f row (j.clk f) ruled sourced (row_fits m f (row_words words f) row made) (λ g x. j.sane g (omega arith))) d h

  pub at_unrated : (f : ℕ) → f < m → (row_words words f).kind ≡ unrated_kind → rate_of (rate (j.clk f)) ≡ rates f
  unfolding kinds
  at_unrated f l e = go (j.clk f) (rw e at (j.ruled f l))
    where
      go : (k : Clock) → Rule j.clk (input (rates f).period (rates f).phase) k → rate_of (rate k) ≡ rates f
      go k by_input = refl

  pub at_rated : (f : ℕ) → f < m → rated (row_words words f) ≡ true → rate (j.clk f) ≡ written (row_words words f)
  at_rated f l h =
      rule_written j.clk f (row_words words f).kind _ _ _ (j.clk f) (j.sane f l) (leb-true (row_words words f).kind 1 h)
      (subst (λ (w : Words). Rule j.clk (row_made w) (j.clk f)) (kept_rated (rates f) (row_words words f) h) (j.ruled f l))

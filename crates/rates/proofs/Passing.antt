-- What steps and passes along rows do to the rates, and how these begin. Assumes nothing.
use mathlib.Core.Path.{◌≡◌, refl, sym, ◌∙◌, ap, subst}
use Prim.Native.Nat.{ℕ, zero, suc, ◌+◌, ◌≤◌, ◌<◌}
use native.Mathlib.Omega.{arith}
use mathlib.Core.Bool.{Bool, true, false, cond, ◌||◌, true≢false}
use mathlib.Core.List.{List}
use lib.Dec.{eqb}
use lib.ListN.{length, replicate, set, length-set}
use lib.Seq.{get_or-set_same, get_or-set_other}
use borrow.Author.Count.{below_more}
use borrow.Author.Tests.{eqb-true, eqb-false}
use Rattle.std.specs.Prelude.{Option, Some, None}
use Rattle.std.proofs.lemmas.List.Sums.{sum_by-set}
use Rattle.table.specs.declared.FlowFields.{FlowFields}
use Rattle.table.specs.Answers.{good}
use Rattle.table.specs.Rows.{Row, Words, kind_count, max_flows}
use Rattle.table.specs.Plain.{row_words, draft_of}
use Rattle.table.proofs.Tables.{made_by}
use Rattle.table.proofs.Tests.{Tried, passed, failed, try}
use Rattle.rates.specs.Joins.{row_joins, joined_by, rated}
use Rattle.rates.specs.declared.steps.Rate.{Rate}
use Rattle.rates.specs.Private.Spread.{row_made, begun, written, rate_at, Known, Derived, of_rated, of_operand, of_result, Spread, Even, ClosedAt, Closed, missing, unknown}
use Rattle.rates.specs.Private.Spread.{Stepped, still, risen, fallen, Passed, Starting, Settled, join_fields}
use Rattle.rates.proofs.Joining.{first_joined, second_joined, third_joined, fields_have}
use Rattle.rates.proofs.Judging.{joins_inside}

-- a draft has no more flows than there are rates
pub few_flows : (m : ℕ) (words : List ℕ) (rows : List Row) → draft_of m words ≡ good rows → m ≤ max_flows
few_flows m words rows draft = (made_by false m words rows draft).few

module _ (m : ℕ) (words : List ℕ) where
  -- no step
  pub passed_none : (Ended : Type 0) (st : List (Option Rate)) → Ended → Passed m words Ended st st false
  passed_none Ended st e = record { size = refl; spread = λ s. s; kept = λ f k. k; fewer = omega arith; still = λ z. (refl, e) }

  -- steps, and then others
  pub passed_then :
      (A B Ended : Type 0) (st st' st'' : List (Option Rate)) (a b : Bool) → Passed m words A st st' a → Passed m words B st' st'' b → (st' ≡ st → A → B → Ended)
      → Passed m words Ended st st'' (a || b)
  passed_then A B Ended st st' st'' a b p q h = record {
    size = q.size ∙ p.size;
    spread = λ s. q.spread (p.spread s);
    kept = λ f k. q.kept f (p.kept f k);
    fewer = fewer a b p.fewer q.fewer;
    still = still_both a b p.still q.still;
  }
    where
      fewer : (a b : Bool) → unknown st' + cond a 1 0 ≤ unknown st → unknown st'' + cond b 1 0 ≤ unknown st' → unknown st'' + cond (a || b) 1 0 ≤ unknown st
      fewer true b x y = omega arith
      fewer false b x y = omega arith

      still_both : (a b : Bool) → (a ≡ false → (st' ≡ st) × A) → (b ≡ false → (st'' ≡ st') × B) → (a || b) ≡ false → (st'' ≡ st) × Ended
      still_both true b x y z = absurd (true≢false z)
      still_both false b x y z = let s = x refl in let t = y z in (t.0 ∙ s.0, h s.0 s.1 t.1)

  -- one more rate is known
  module _ (st : List (Option Rate)) (f : ℕ) (x : Option Rate) (l : f < length st) where
    here : rate_at (set st f x) f ≡ x
    here = get_or-set_same st f x None l

    other : (g : ℕ) → (g ≡ f → ⊥) → rate_at (set st f x) g ≡ rate_at st g
    other g n = get_or-set_other st f g x None n

    spread_set : ((q : Rate) → x ≡ Some q → Derived m words f q) → Spread m words st → Spread m words (set st f x)
    spread_set d s g q e = go (try (eqb g f))
      where
        go : Tried (eqb g f) → Derived m words g q
        go (passed t) =
            let p : g ≡ f = eqb-true g f t in
            subst (λ (i : ℕ). Derived m words i q) (sym p) (d q (sym here ∙ ap (rate_at (set st f x)) (sym p) ∙ e))
        go (failed t) = s g q (sym (other g (eqb-false g f t)) ∙ e)

    known_set : Known (set st f x) f → (g : ℕ) → (Known st g) → Known (set st f x) g
    known_set h g k = go (try (eqb g f))
      where
        go : Tried (eqb g f) → Known (set st f x) g
        go (passed t) = subst (Known (set st f x)) (sym (eqb-true g f t)) h
        go (failed t) = (k.0, other g (eqb-false g f t) ∙ k.1)

  added : (st : List (Option Rate)) (f : ℕ) (q : Rate) (Ended : Type 0) → f < length st → rate_at st f ≡ None → (Spread m words st → Derived m words f q)
      → Passed m words Ended st (set st f (Some q)) true
  added st f q Ended l e d = record {
    size = length-set st f (Some q);
    spread = λ s. spread_set st f (Some q) l (λ p x. subst (Derived m words f) (some_same x) (d s)) s;
    kept = λ g k. known_set st f (Some q) l (q, here st f (Some q) l) g k;
    fewer = omega (arith, sum_by-set missing st f (Some q) None l, ap missing e);
    still = λ z. absurd (true≢false z);
  }
    where
      some_same : {p : Rate} → ◌≡◌ {A = Option Rate} (Some q) (Some p) → q ≡ p
      some_same x = cc

  -- one step of row f
  pub stepped : (on : Bool) (f a : ℕ) (st st' : List (Option Rate)) (news : Bool) → f < m → f < length st → (on ≡ true → joined_by words f a ≡ true)
      → (on ≡ true → a < length st) → Stepped on (row_made (row_words words f)) f a st news st' → Passed m words (on ≡ true → Even st f a) st st' news
  stepped on f a st st' news l lf j la (still e) = passed_none _ st e
  stepped on f a st st' news l lf j la (risen o n k) = added st f _ _ lf n (λ s. of_operand l (j o) (s a _ k))
  stepped on f a st st' news l lf j la (fallen o n k) = added st a _ _ (la o) n (λ s. of_result l (j o) (s f _ k))

  -- the steps of row f, with its words and the fields of its kind that join
  module _ (rows : List Row) (draft : draft_of m words ≡ good rows) (f : ℕ) (l : f < m) (w : Words) (on : FlowFields) (is : w ≡ row_words words f) (told : on ≡ join_fields w.kind) where
    few : m ≤ max_flows
    few = few_flows m words rows draft

    joined : (x : ℕ) → row_joins w x ≡ true → joined_by words f x ≡ true
    joined x h = subst (λ (v : Words). row_joins v x ≡ true) is h

    joined_one : on.one ≡ true → joined_by words f w.one ≡ true
    joined_one o = joined w.one (first_joined w (sym (ap (λ (s : FlowFields). s.one) told) ∙ o))

    joined_two : on.two ≡ true → joined_by words f w.two ≡ true
    joined_two o = joined w.two (second_joined w (sym (ap (λ (s : FlowFields). s.two) told) ∙ o))

    joined_three : on.three ≡ true → joined_by words f w.three ≡ true
    joined_three o = joined w.three (third_joined w (sym (ap (λ (s : FlowFields). s.three) told) ∙ o))

    inside : (n x : ℕ) → m ≤ n → joined_by words f x ≡ true → x < n
    inside n x h j = let i : x < m = (joins_inside m words rows draft f x j).1 in omega arith

    known_kind : w.kind < kind_count
    known_kind = rw is ((made_by false m words rows draft).row_at_lem f l).known

    -- what the steps ask
    pub asked_one : (w.kind < kind_count) × (f < max_flows) × (on.one ≡ true → w.one < max_flows)
    asked_one = (known_kind, omega (arith, few), λ o. inside max_flows w.one few (joined_one o))

    pub asked_two : (w.kind < kind_count) × (f < max_flows) × (on.two ≡ true → w.two < max_flows)
    asked_two = (known_kind, omega (arith, few), λ o. inside max_flows w.two few (joined_two o))

    pub asked_three : (w.kind < kind_count) × (f < max_flows) × (on.three ≡ true → w.three < max_flows)
    asked_three = (known_kind, omega (arith, few), λ o. inside max_flows w.three few (joined_three o))

    pub linked :
        (st s1 s2 s3 : List (Option Rate)) (a b c : Bool) → m ≤ length st → Stepped on.one (row_made w) f w.one st a s1
        → Stepped on.two (row_made w) f w.two s1 b s2 → Stepped on.three (row_made w) f w.three s2 c s3
        → Passed m words (ClosedAt words st f) st s3 ((a || b) || c)
    linked st s1 s2 s3 a b c h x y z =
        let p = step st s1 on.one w.one a h (joined_one) x in
        let h1 : m ≤ length s1 = omega (arith, p.size) in
        let q = step s1 s2 on.two w.two b h1 (joined_two) y in
        let h2 : m ≤ length s2 = omega (arith, q.size) in
        let r = step s2 s3 on.three w.three c h2 (joined_three) z in
        passed_then ((on.one ≡ true → Even st f w.one) × (on.two ≡ true → Even st f w.two)) _ _ st s2 s3 (a || b) c
        (passed_then _ _ _ st s1 s2 a b p q (λ e u v. (u, λ o. subst (λ (s : List (Option Rate)). Even s f w.two) e (v o)))) r
        (λ e u v d j. fields_have w (Even st f) (told_by (λ s. s.one ≡ true → Even st f w.one) u.0) (told_by (λ s. s.two ≡ true → Even st f w.two) u.1)
        (told_by (λ s. s.three ≡ true → Even st f w.three) (λ o. subst (λ (s : List (Option Rate)). Even s f w.three) e (v o))) d
        (subst (λ (v : Words). row_joins v d ≡ true) (sym is) j))
      where
        step : (st st' : List (Option Rate)) (o : Bool) (d : ℕ) (news : Bool) → m ≤ length st → (o ≡ true → joined_by words f d ≡ true) → Stepped o (row_made w) f d st news st'
            → Passed m words (o ≡ true → Even st f d) st st' news
        step st st' o d news h j s =
            stepped o f d st st' news l (omega arith) j (λ t. inside (length st) d h (j t)) (subst (λ (v : Words). Stepped o (row_made v) f d st news st') is s)

        told_by : (P : FlowFields → Type 0) → P on → P (join_fields w.kind)
        told_by P p = subst P told p

  -- ---- a pass, row by row
  pub passing_next : (st st' st'' : List (Option Rate)) (f : ℕ) (a b : Bool) → Passed m words ((g : ℕ) → g < f → ClosedAt words st g) st st' a
      → Passed m words (ClosedAt words st' f) st' st'' b → Passed m words ((g : ℕ) → g < f + 1 → ClosedAt words st g) st st'' (a || b)
  passing_next st st' st'' f a b p q =
      passed_then _ _ _ st st' st'' a b p q (λ e u v. below_more (ClosedAt words st) f u (subst (λ (s : List (Option Rate)). ClosedAt words s f) e v))

  pub all_passed : (st st' : List (Option Rate)) (f : ℕ) (a : Bool) → f ≡ m → Passed m words ((g : ℕ) → g < f → ClosedAt words st g) st st' a → Passed m words (Closed m words st) st st' a
  all_passed st st' f a e p = subst (λ (i : ℕ). Passed m words ((g : ℕ) → g < i → ClosedAt words st g) st st' a) e p

  -- what nothing is left of to spread is settled
  pub settled : (st st' : List (Option Rate)) → Starting m words m st → (st' ≡ st) × Closed m words st → Settled m words st'
  settled st st' s c = rw c.0 record { spread = s.spread; started = s.started; closed = c.1 }

  -- ---- the start
  pub starting_none : (n : ℕ) → Starting m words 0 (replicate n None)
  starting_none n = record { spread = λ f q e. absurd (cc (none_at n f)); started = λ f l. absurd (omega arith) }
    where
      none_at : (n g : ℕ) → rate_at (replicate n None) g ≡ None
      none_at zero g = refl
      none_at (suc n) zero = refl
      none_at (suc n) (suc g) = none_at n g

  pub starting_next : (st : List (Option Rate)) (f : ℕ) (x : Option Rate) → f < m → f < length st → x ≡ begun (row_words words f) → Starting m words f st
      → Starting m words (f + 1) (set st f x)
  starting_next st f x l lf is s = record {
    spread = spread_set st f x lf (λ q e. derived q (try (rated w)) (sym is ∙ e)) s.spread;
    started = below_more (λ g. rated (row_words words g) ≡ true → Known (set st f x) g) f
        (λ g y e. let k : Known st g = s.started g y e in (k.0, other st f x lf g (omega arith) ∙ k.1)) there;
  }
    where
      w : Words
      w = row_words words f

      derived : (q : Rate) → Tried (rated w) → begun w ≡ Some q → Derived m words f q
      derived q (passed r) e =
          let p : written w ≡ q = cc (rw r at e) in
          subst (Derived m words f) p (of_rated l r)
      derived q (failed r) e = absurd (cc (rw r at e))

      there : rated w ≡ true → Known (set st f x) f
      there e = (written w, here st f x lf ∙ is ∙ rw e)

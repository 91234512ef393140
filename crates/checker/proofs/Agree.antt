-- Each row's rule over clocks as the check keeps them comes to what the paper's rule comes to, while the clocks are within the limits. Assumes nothing.
use mathlib.Core.Path.{◌≡◌, refl, sym, ◌∙◌, ap, ap₂, subst}
use Prim.Native.Nat.{ℕ, zero, suc, ◌+◌, ◌*◌, ◌/◌, ◌%◌, ◌≤◌, ◌<◌}
use native.Mathlib.Omega.{arith}
use mathlib.Core.Bool.{Bool, true, false, ◌&&◌, ◌||◌, true≢false, false≢true}
use mathlib.Core.List.{List, [], ◌∷◌, ◌++◌, map}
use lib.ListN.{length, take, length-append}
use lib.Dec.{eqb, leb, eqb-suc-zero}
use borrow.Author.Tests.{eqb-true, eq-eqb, leb-false, le-leb}
use Rattle.std.specs.Prelude.{Ok, Err}
use Rattle.std.specs.Cmp.Lexicographic.{pointwise, bytes_decides}
use Rattle.table.specs.declared.refusal.Refusal.{Refusal}
use Rattle.table.specs.declared.refusal.Refusal.TheVariants.{BeyondLimits, NotPlain, BadView}
use Rattle.table.specs.Answers.{Result, good, refused, unless}
use Rattle.table.specs.Bits.{bit}
use Rattle.table.specs.Rows.{max_flows, max_field}
use Rattle.table.proofs.Tests.{and_left, and_right, and_both, same_test, beq_same}
use Rattle.checker.specs.Clocks.{Condition, Clock, every, is_empty, plain, same_conditions, same_clock, under}
use Rattle.checker.specs.Rules.{within_limits, limited, max_derived, view_fits, Below, FirstViewed, Within}
use Rattle.checker.specs.Answers.{condition_word, four_words}
use Rattle.checker.specs.declared.Clock.{Clock as Kept}
use Rattle.checker.specs.Private.Kept.{Verdict}
use Rattle.checker.specs.Private.Kept as Kept
use Rattle.checker.proofs.ClockLaws.{same_conditions_lem, same_clock_lem, plain_empty}
use Rattle.checker.proofs.RuleLaws.{limits}
use Rattle.checker.proofs.CheckLaws.{every_snoc}

-- A verdict of row f and the rule's result: the same clock, within the limits, or the same refusal, which names f.
abbrev pub Agrees : ℕ → Verdict → Result Clock → Type 0
Agrees f v (good k) = (v ≡ Ok (Kept.kept k)) × Within k
Agrees f v (refused why g) = (v ≡ Err why) × (g ≡ f)

-- a test on both sides
pub agree_guard : (f : ℕ) (a b : Bool) (why : Refusal) (v : Verdict) (r : Result Clock) → b ≡ a → (a ≡ true → Agrees f v r)
    → Agrees f (Kept.guard a why v) (unless b why f r)
agree_guard f true true why v r e h = h refl
agree_guard f true false why v r e h = absurd (false≢true e)
agree_guard f false true why v r e h = absurd (true≢false e)
agree_guard f false false why v r e h = (refl, refl)

-- two tests one after the other with one cause are one test
pub guard_both : (a b : Bool) (why : Refusal) (v : Verdict) → Kept.guard a why (Kept.guard b why v) ≡ Kept.guard (a && b) why v
guard_both true b why v = refl
guard_both false b why v = refl

pub few : (k : Clock) → Within k → length k.conditions ≤ 4
few k w = (limits k w.0).few

-- ---- clocks without conditions

pub plain_count : (cs : List Condition) → is_empty cs ≡ eqb (length cs) 0
plain_count [] = refl
plain_count (c ∷ cs) = sym (eqb-suc-zero (length cs))

within_every : (n p : ℕ) → leb n max_derived ≡ true → leb p max_derived ≡ true → within_limits (every n p) ≡ true
within_every n p a b = rw (a, b)

pub agree_every : (f n p : ℕ) → n ≤ max_derived → p ≤ max_derived → Agrees f (Ok (Kept.every n p)) (good (every n p))
agree_every f n p a b = (refl, (within_every n p (le-leb n max_derived a) (le-leb p max_derived b), tt, tt))

pub agree_limited : (f n p : ℕ) → Agrees f (Kept.limited n p) (limited f (every n p))
unfolding Kept.limited
agree_limited f n p = go (leb n max_derived) (leb p max_derived) refl refl
  where
    go : (a b : Bool) → leb n max_derived ≡ a → leb p max_derived ≡ b
        → Agrees f (Kept.guard (a && b) BeyondLimits (Ok (Kept.every n p))) (unless (a && (b && true)) BeyondLimits f (good (every n p)))
    go true true a b = (refl, (within_every n p a b, tt, tt))
    go true false a b = (refl, refl)
    go false b a e = (refl, refl)

-- ---- equal clocks: the words kept are

-- a condition's word, taken apart
abbrev pub flow_part : ℕ → ℕ
flow_part x = x % Kept.view_unit

abbrev pub view_part : ℕ → ℕ
view_part x = x / Kept.view_unit

pub apart : (c : Condition) → c.flow < max_flows → (flow_part (Kept.kept_word c) ≡ condition_word c) × (view_part (Kept.kept_word c) ≡ c.view)
apart c l = go c.flow c.view c.truth l
  where
    go : (f v : ℕ) (u : Bool) → f < max_flows → (flow_part (2 * f + bit u + Kept.view_unit * v) ≡ 2 * f + bit u) × (view_part (2 * f + bit u + Kept.view_unit * v) ≡ v)
    go f v true l = (omega arith, omega arith)
    go f v false l = (omega arith, omega arith)

word_inj : (f g : ℕ) (t u : Bool) → 2 * f + bit t ≡ 2 * g + bit u → (f ≡ g) × (t ≡ u)
word_inj f g true true e = (omega arith, refl)
word_inj f g true false e = absurd (omega arith)
word_inj f g false true e = absurd (omega arith)
word_inj f g false false e = (omega arith, refl)

-- the first n words, which are as many as the conditions or more
conditions_words : (n : ℕ) (cs ds : List Condition) (zs : List ℕ) → Below max_flows cs → Below max_flows ds → length cs ≤ n → length cs ≡ length ds
    → take n (map Kept.kept_word cs ++ zs) ≡ take n (map Kept.kept_word ds ++ zs) → same_conditions cs ds ≡ true
conditions_words n [] [] zs l m x e h = refl
conditions_words n [] (d ∷ ds) zs l m x e h = absurd (omega arith)
conditions_words n (c ∷ cs) [] zs l m x e h = absurd (omega arith)
conditions_words zero (c ∷ cs) (d ∷ ds) zs l m x e h = absurd (omega arith)
conditions_words (suc n) (c ∷ cs) (d ∷ ds) zs l m x e h =
    let first : Kept.kept_word c ≡ Kept.kept_word d = cc in
    let rest : take n (map Kept.kept_word cs ++ zs) ≡ take n (map Kept.kept_word ds ++ zs) = cc in
    let p = apart c l.0 in
    let q = apart d m.0 in
    let w = word_inj c.flow d.flow c.truth d.truth (sym p.0 ∙ ap flow_part first ∙ q.0) in
    and_both (eq-eqb c.flow d.flow w.0)
    (and_both (beq_same c.truth d.truth w.1)
    (and_both (eq-eqb c.view d.view (sym p.1 ∙ ap view_part first ∙ q.1))
    (conditions_words n cs ds zs l.1 m.1 (omega arith) (omega arith) rest)))

-- a property of the first four places
below_four : (P : ℕ → Type 0) (n : ℕ) → n ≤ 4 → P 0 → P 1 → P 2 → P 3 → (i : ℕ) → i < n → P i
below_four P n l a b c d zero h = a
below_four P n l a b c d (suc zero) h = b
below_four P n l a b c d (suc (suc zero)) h = c
below_four P n l a b c d (suc (suc (suc zero))) h = d
below_four P n l a b c d (suc (suc (suc (suc i)))) h = absurd (omega arith)

-- the conditions' words, looked at where there are any
conditions_back : (cs ds : List Condition) → Below max_flows cs → Below max_flows ds → length cs ≤ 4 → length cs ≡ length ds
    → (eqb (length cs) 0 || pointwise eqb (four_words Kept.kept_word cs) (four_words Kept.kept_word ds)) ≡ true → same_conditions cs ds ≡ true
conditions_back [] [] l m x e h = refl
conditions_back [] (d ∷ ds) l m x e h = absurd (omega arith)
conditions_back (c ∷ cs) ds l m x e h =
    conditions_words 4 (c ∷ cs) ds (0 ∷ 0 ∷ 0 ∷ 0 ∷ []) l m x e ((bytes_decides _ _).0 (rw (eqb-suc-zero (length cs)) at h))

or_right : (a b : Bool) → b ≡ true → (a || b) ≡ true
or_right true b e = refl
or_right false b e = e

same_itself : (k : Kept) → Kept.same k k ≡ true
unfolding Kept.same
same_itself k =
    and_both (eq-eqb k.period k.period refl)
    (and_both (eq-eqb k.phase k.phase refl)
    (and_both (eq-eqb k.count k.count refl) (or_right (eqb k.count 0) _ ((bytes_decides k.conditions k.conditions).1 refl))))

same_kept_there : (j k : Clock) → same_clock j k ≡ true → Kept.same (Kept.kept j) (Kept.kept k) ≡ true
same_kept_there j k e = rw (same_clock_lem j k e) (same_itself (Kept.kept k))

same_kept_back : (j k : Clock) → Within j → Below max_flows k.conditions → Kept.same (Kept.kept j) (Kept.kept k) ≡ true → same_clock j k ≡ true
unfolding Kept.same
same_kept_back j k l m e =
    let r = and_right (eqb j.period k.period) _ e in
    let s = and_right (eqb j.phase k.phase) _ r in
    and_both (and_left (eqb j.period k.period) _ e)
    (and_both (and_left (eqb j.phase k.phase) _ r)
    (conditions_back j.conditions k.conditions l.1 m (few j l) (eqb-true _ _ (and_left (eqb (length j.conditions) (length k.conditions)) _ s))
    (and_right (eqb (length j.conditions) (length k.conditions)) _ s)))

-- a clock within the limits equals one with conditions on flows of a table where the words kept are equal
pub same_kept : (j k : Clock) → Within j → Below max_flows k.conditions → same_clock j k ≡ Kept.same (Kept.kept j) (Kept.kept k)
same_kept j k l m = same_test (same_clock j k) (Kept.same (Kept.kept j) (Kept.kept k)) (same_kept_there j k) (same_kept_back j k l m)

-- ---- one more condition

under_words : (n p : ℕ) (cs : List Condition) (d : Condition) → length cs ≤ 4
    → Kept.under (Kept.kept (record { period = n; phase = p; conditions = cs })) (Kept.kept_word d)
    ≡ Kept.guard (leb (length cs + 1) 4) BeyondLimits (Ok (Kept.kept (record { period = n; phase = p; conditions = cs ++ (d ∷ []) })))
unfolding Kept.under
under_words n p [] d l = refl
under_words n p (a ∷ []) d l = refl
under_words n p (a ∷ b ∷ []) d l = refl
under_words n p (a ∷ b ∷ c ∷ []) d l = refl
under_words n p (a ∷ b ∷ c ∷ e ∷ []) d l = refl
under_words n p (a ∷ b ∷ c ∷ e ∷ g ∷ cs) d l = absurd (omega arith)

one_more : (cs : List Condition) (d : Condition) → length (cs ++ (d ∷ [])) ≡ length cs + 1
one_more cs d = length-append cs (d ∷ [])

-- a condition of truth u on a flow c of a table, with a view period w that a table can have
module _ (c : ℕ) (u : Bool) (w : ℕ) (h : c < max_flows) (v : w ≤ max_field) where
  abbrev d : Condition
  d = record { flow = c; truth = u; view = w }

  word_of : Kept.condition c u w ≡ Kept.kept_word d
  word_of =
      let e : c % max_flows ≡ c = omega arith in
      let f : w % (max_field + 1) ≡ w = omega arith in
      rw (e, f)

  under_kept : (k : Clock) → length k.conditions ≤ 4
      → Kept.under (Kept.kept k) (Kept.condition c u w) ≡ Kept.guard (leb (length k.conditions + 1) 4) BeyondLimits (Ok (Kept.kept (under k c u w)))
  under_kept k l = ap (Kept.under (Kept.kept k)) word_of ∙ under_words k.period k.phase k.conditions d l

  under_limits : (k : Clock) → Within k → within_limits (under k c u w) ≡ leb (length k.conditions + 1) 4
  under_limits k l =
      let p : leb k.period max_derived ≡ true = and_left (leb k.period max_derived) _ l.0 in
      let q : leb k.phase max_derived ≡ true = and_left (leb k.phase max_derived) _ (and_right (leb k.period max_derived) _ l.0) in
      rw (p, q, one_more k.conditions d)

  below_under : (k : Clock) → Within k → Below max_flows (under k c u w).conditions
  below_under k l = every_snoc (λ (e : Condition). e.flow < max_flows) k.conditions d l.1 h

  pub agree_under : (f : ℕ) (k : Clock) → Within k → FirstViewed (under k c u w).conditions
      → Agrees f (Kept.under (Kept.kept k) (Kept.condition c u w)) (limited f (under k c u w))
  agree_under f k l viewed =
      let n = length k.conditions + 1 in
      let e : within_limits (under k c u w) ≡ leb n 4 = under_limits k l in
      rw (under_kept k (few k l))
      (agree_guard f (leb n 4) (within_limits (under k c u w)) BeyondLimits (Ok (Kept.kept (under k c u w))) (good (under k c u w)) e
      (λ (t : leb n 4 ≡ true). (refl, (e ∙ t, below_under k l, viewed))))

  -- over a clock without conditions
  agree_first : (f : ℕ) (k : Clock) → Within k → plain k ≡ true → Agrees f (Kept.under (Kept.kept k) (Kept.condition c u w)) (good (under k c u w))
  agree_first f k l p =
      let e : limited f (under k c u w) ≡ good (under k c u w) = rw (under_limits k l, plain_empty k p) in
      subst (Agrees f (Kept.under (Kept.kept k) (Kept.condition c u w))) e (agree_under f k l (rw (plain_empty k p) (v, tt)))

  pub agree_viewed : (f : ℕ) (j k : Clock) → Within j
      → Agrees f (Kept.viewed (Kept.kept j) (Kept.kept k) w (Kept.condition c u w))
      (unless (plain j && plain k) NotPlain f (unless (view_fits w j k) BadView f (good (under j c u w))))
  agree_viewed f j k l =
      rw guard_both
      (agree_guard f _ (plain j && plain k) NotPlain _ _ (ap₂ ◌&&◌ (plain_count j.conditions) (plain_count k.conditions))
      (λ t. agree_guard f (view_fits w j k) (view_fits w j k) BadView _ _ refl
      (λ s. agree_first f j l (plain_count j.conditions ∙ and_left (eqb (length j.conditions) 0) _ t))))

-- a clock that has a condition more, sampled directly
pub extends_kept : (a c : Clock) (f : ℕ) (u : Bool) → Within a → Within c → f < max_flows
    → same_clock a (under c f u 0) ≡ Kept.extends (Kept.kept a) (Kept.kept c) (Kept.condition f u 0)
extends_kept a c f u la lc h =
    go (leb (length c.conditions + 1) 4) refl
    ∙ ap (Kept.is_same (Kept.kept a)) (sym (under_kept f u 0 h (omega arith) c (few c lc)))
  where
    d : Condition
    d = record { flow = f; truth = u; view = 0 }

    too_long : same_clock a (under c f u 0) ≡ true → length a.conditions ≡ length c.conditions + 1
    too_long e =
        let r = and_right (eqb a.phase c.phase) _ (and_right (eqb a.period c.period) _ e) in
        ap length (same_conditions_lem a.conditions (c.conditions ++ (d ∷ [])) r) ∙ one_more c.conditions d

    no : (b : Bool) → (b ≡ true → ⊥) → b ≡ false
    no true n = absurd (n refl)
    no false n = refl

    go : (b : Bool) → leb (length c.conditions + 1) 4 ≡ b
        → same_clock a (under c f u 0) ≡ Kept.is_same (Kept.kept a) (Kept.guard (leb (length c.conditions + 1) 4) BeyondLimits (Ok (Kept.kept (under c f u 0))))
    go true e = rw e (same_kept a (under c f u 0) la (below_under f u 0 h (omega arith) c lc))
    go false e =
        rw e (no (same_clock a (under c f u 0)) (λ (t : same_clock a (under c f u 0) ≡ true). omega (arith, too_long t, few a la, leb-false (length c.conditions + 1) 4 e)))

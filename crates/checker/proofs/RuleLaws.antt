-- What a rule that gives a clock has found. Assumes nothing.
use mathlib.Core.Path.{◌≡◌, refl, subst}
use Prim.Native.Nat.{ℕ, ◌+◌, ◌*◌, ◌%◌, ◌≤◌}
use native.Mathlib.Omega.{arith}
use mathlib.Core.Bool.{Bool, true, false, ◌&&◌}
use lib.ListN.{length}
use lib.Dec.{eqb, leb}
use borrow.Author.Tests.{eqb-true, leb-true, le-leb}
use Rattle.table.specs.declared.refusal.Refusal.{Refusal}
use Rattle.table.specs.declared.refusal.Refusal.TheVariants.{ClocksDiffer, BeyondLimits, NotPlain, BadView}
use Rattle.table.specs.Answers.{Result, good, refused, unless}
use Rattle.table.specs.Rows.{Row, Op, input, constant, combine, register, faster, slower, later, head, tail, sample, merge, unrated, view, max_field}
use Rattle.table.proofs.Tests.{and_left, and_right, and_both, good_inj, not_good, unless_good}
use Rattle.checker.specs.Clocks.{Clock, every, plain, same_clock, under}
use Rattle.checker.specs.Rules.{max_derived, max_conditions, within_limits, limited, multiple, view_fits, clock_of}
use Rattle.checker.proofs.ClockLaws.{same_clock_lem}

-- a period or phase that is written is within the limits of derived ones
pub written_fits : {n : ℕ} → n ≤ max_field → n ≤ max_derived
written_fits l = omega arith

-- the limits, kept
pub record Limited (k : Clock) : Type 0 where
  pub period_fits : k.period ≤ max_derived
  pub phase_fits : k.phase ≤ max_derived
  pub few : length k.conditions ≤ max_conditions

pub limits : (k : Clock) → within_limits k ≡ true → Limited k
limits k e =
    let s : (leb k.phase max_derived && leb (length k.conditions) max_conditions) ≡ true = and_right (leb k.period max_derived) _ e in
    record {
      period_fits = leb-true _ _ (and_left (leb k.period max_derived) _ e);
      phase_fits = leb-true _ _ (and_left (leb k.phase max_derived) _ s);
      few = leb-true _ _ (and_right (leb k.phase max_derived) _ s);
    }

pub within_limits_lem : (k : Clock) → Limited k → within_limits k ≡ true
within_limits_lem k l = and_both (le-leb _ _ l.period_fits) (and_both (le-leb _ _ l.phase_fits) (le-leb _ _ l.few))

limited_good : (f : ℕ) (j k : Clock) → limited f j ≡ good k → (j ≡ k) × Limited j
limited_good f j k e =
    let r = unless_good (within_limits j) BeyondLimits f (good j) k e in
    (good_inj r.1, limits j r.0)

-- a view that fits
pub record Views (w : ℕ) (a c : Clock) : Type 0 where
  pub own : w % a.period ≡ 0
  pub other : w % c.period ≡ 0
  pub begun : c.phase ≤ a.phase

views : (w : ℕ) (a c : Clock) → view_fits w a c ≡ true → Views w a c
views w a c e =
    let s : (multiple c.period w && leb c.phase a.phase) ≡ true = and_right (multiple a.period w) _ e in
    record {
      own = eqb-true _ _ (and_left (multiple a.period w) _ e);
      other = eqb-true _ _ (and_left (multiple c.period w) _ s);
      begun = leb-true _ _ (and_right (multiple c.period w) _ s);
    }

-- a refusal names the row's own flow
abbrev pub Own : ℕ → Result Clock → Type 0
Own f (good k) = Unit {0}
Own f (refused why g) = g ≡ f

own_unless : (f : ℕ) (b : Bool) (why : Refusal) (r : Result Clock) → Own f r → Own f (unless b why f r)
own_unless f true why r h = h
own_unless f false why r h = refl

own_limited : (f : ℕ) (k : Clock) → Own f (limited f k)
own_limited f k = own_unless f (within_limits k) BeyondLimits (good k) tt

pub own_row : (clk : ℕ → Clock) (f : ℕ) (r : Row) → Own f (clock_of clk f r)
unfolding clock_of
own_row clk f (input n p) = tt
own_row clk f (constant v n p) = tt
own_row clk f (combine op a b) = own_unless f (same_clock (clk a) (clk b)) ClocksDiffer (good (clk a)) tt
own_row clk f (register v b a) = tt
own_row clk f (faster a k g) = own_unless f (plain (clk a)) NotPlain _ (own_unless f (eqb (clk a).period (k * g)) ClocksDiffer (good (every g (clk a).phase)) tt)
own_row clk f (slower a k) = own_unless f (plain (clk a)) NotPlain _ (own_limited f (every (k * (clk a).period) (clk a).phase))
own_row clk f (later a d) = own_unless f (plain (clk a)) NotPlain _ (own_limited f (every (clk a).period ((clk a).phase + d)))
own_row clk f (head a v s) = own_unless f (plain (clk a)) NotPlain _ (own_unless f (eqb (clk a).phase (s + (clk a).period)) ClocksDiffer (good (every (clk a).period s)) tt)
own_row clk f (tail a) = own_unless f (plain (clk a)) NotPlain _ (own_limited f (every (clk a).period ((clk a).phase + (clk a).period)))
own_row clk f (sample u a c) = own_unless f (same_clock (clk a) (clk c)) ClocksDiffer _ (own_limited f (under (clk a) c u 0))
own_row clk f (merge c a b) = own_unless f (same_clock (clk a) (under (clk c) c true 0) && same_clock (clk b) (under (clk c) c false 0)) ClocksDiffer (good (clk c)) tt
own_row clk f unrated = refl
own_row clk f (view u a c w) =
    own_unless f (plain (clk a) && plain (clk c)) NotPlain _ (own_unless f (view_fits w (clk a) (clk c)) BadView (good (under (clk a) c u w)) tt)

-- The rules once more, as what holds where a row has a clock.
pub data Rule (clk : ℕ → Clock) : Row → Clock → Type 0 where
  by_input : {n p : ℕ} → Rule clk (input n p) (every n p)
  by_constant : {v n p : ℕ} → Rule clk (constant v n p) (every n p)
  by_combine : {op : Op} {a b : ℕ} → clk a ≡ clk b → Rule clk (combine op a b) (clk a)
  by_register : {v b a : ℕ} → Rule clk (register v b a) (clk b)
  by_faster : {a k g : ℕ} → plain (clk a) ≡ true → (clk a).period ≡ k * g → Rule clk (faster a k g) (every g (clk a).phase)
  by_slower : {a k : ℕ} → plain (clk a) ≡ true → Limited (every (k * (clk a).period) (clk a).phase) → Rule clk (slower a k) (every (k * (clk a).period) (clk a).phase)
  by_later : {a d : ℕ} → plain (clk a) ≡ true → Limited (every (clk a).period ((clk a).phase + d)) → Rule clk (later a d) (every (clk a).period ((clk a).phase + d))
  by_head : {a v s : ℕ} → plain (clk a) ≡ true → (clk a).phase ≡ s + (clk a).period → Rule clk (head a v s) (every (clk a).period s)
  by_tail :
      {a : ℕ} → plain (clk a) ≡ true → Limited (every (clk a).period ((clk a).phase + (clk a).period))
      → Rule clk (tail a) (every (clk a).period ((clk a).phase + (clk a).period))
  by_sample : {u : Bool} {a c : ℕ} → clk a ≡ clk c → Limited (under (clk a) c u 0) → Rule clk (sample u a c) (under (clk a) c u 0)
  by_merge : {c a b : ℕ} → clk a ≡ under (clk c) c true 0 → clk b ≡ under (clk c) c false 0 → Rule clk (merge c a b) (clk c)
  by_view : {u : Bool} {a c w : ℕ} → plain (clk a) ≡ true → plain (clk c) ≡ true → Views w (clk a) (clk c) → Rule clk (view u a c w) (under (clk a) c u w)

module _ (clk : ℕ → Clock) (f : ℕ) where
  -- a test, and then a clock or a clock within the limits
  tested : (b : Bool) (why : Refusal) (j k : Clock) (r : Row) → (b ≡ true → Rule clk r j) → unless b why f (good j) ≡ good k → Rule clk r k
  tested b why j k r h e =
      let u = unless_good b why f (good j) k e in
      subst (Rule clk r) (good_inj u.1) (h u.0)

  within : (b : Bool) (why : Refusal) (j k : Clock) (r : Row) → (b ≡ true → Limited j → Rule clk r j) → unless b why f (limited f j) ≡ good k → Rule clk r k
  within b why j k r h e =
      let u = unless_good b why f (limited f j) k e in
      let l : (j ≡ k) × Limited j = limited_good f j k u.1 in
      subst (Rule clk r) l.0 (h u.0 l.1)

  pub rule_of_lem : (r : Row) (k : Clock) → clock_of clk f r ≡ good k → Rule clk r k
  unfolding clock_of
  rule_of_lem (input n p) k e = subst (Rule clk (input n p)) (good_inj e) by_input
  rule_of_lem (constant v n p) k e = subst (Rule clk (constant v n p)) (good_inj e) by_constant
  rule_of_lem (combine op a b) k e = tested (same_clock (clk a) (clk b)) ClocksDiffer (clk a) k (combine op a b) (λ x. by_combine (same_clock_lem _ _ x)) e
  rule_of_lem (register v b a) k e = subst (Rule clk (register v b a)) (good_inj e) by_register
  rule_of_lem (faster a m g) k e =
      let u = unless_good (plain (clk a)) NotPlain f _ k e in
      tested (eqb (clk a).period (m * g)) ClocksDiffer (every g (clk a).phase) k (faster a m g) (λ x. by_faster u.0 (eqb-true _ _ x)) u.1
  rule_of_lem (slower a m) k e = within (plain (clk a)) NotPlain (every (m * (clk a).period) (clk a).phase) k (slower a m) (λ x l. by_slower x l) e
  rule_of_lem (later a d) k e = within (plain (clk a)) NotPlain (every (clk a).period ((clk a).phase + d)) k (later a d) (λ x l. by_later x l) e
  rule_of_lem (head a v s) k e =
      let u = unless_good (plain (clk a)) NotPlain f _ k e in
      tested (eqb (clk a).phase (s + (clk a).period)) ClocksDiffer (every (clk a).period s) k (head a v s) (λ x. by_head u.0 (eqb-true _ _ x)) u.1
  rule_of_lem (tail a) k e = within (plain (clk a)) NotPlain (every (clk a).period ((clk a).phase + (clk a).period)) k (tail a) (λ x l. by_tail x l) e
  rule_of_lem (sample u a c) k e = within (same_clock (clk a) (clk c)) ClocksDiffer (under (clk a) c u 0) k (sample u a c) (λ x l. by_sample (same_clock_lem _ _ x) l) e
  rule_of_lem (merge c a b) k e =
      let left : Bool = same_clock (clk a) (under (clk c) c true 0) in
      tested (left && same_clock (clk b) (under (clk c) c false 0)) ClocksDiffer (clk c) k (merge c a b)
      (λ x. by_merge (same_clock_lem _ _ (and_left left _ x)) (same_clock_lem _ _ (and_right left _ x))) e
  rule_of_lem unrated k e = not_good e
  rule_of_lem (view u a c w) k e =
      let x = unless_good (plain (clk a) && plain (clk c)) NotPlain f _ k e in
      tested (view_fits w (clk a) (clk c)) BadView (under (clk a) c u w) k (view u a c w)
      (λ y. by_view (and_left (plain (clk a)) _ x.0) (and_right (plain (clk a)) _ x.0) (views w (clk a) (clk c) y)) x.1

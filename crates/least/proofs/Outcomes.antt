-- What the check of a set's flows comes to, in the plan's own numbers: clocks for all of them, or a refusal of one; and the same for a smaller set.
-- Assumes nothing.
use mathlib.Core.Path.{◌≡◌, refl, sym, ◌∙◌, ap, subst}
use Prim.Native.Nat.{ℕ, zero, suc, ◌≤◌, ◌<◌}
use native.Mathlib.Omega.{arith}
use mathlib.Core.Bool.{Bool, true, false, cond, false≢true}
use mathlib.Core.List.{List}
use lib.Dec.{eqb}
use borrow.Author.Tests.{eq-eqb, ne_eqb}
use Rattle.table.specs.declared.refusal.Refusal.{Refusal}
use Rattle.table.specs.declared.refusal.Refusal.TheVariants.{ClocksDiffer}
use Rattle.table.specs.Answers.{Result, good, refused}
use Rattle.table.specs.Rows.{Row, on_register}
use Rattle.table.specs.Tables.{row_at, Fits}
use Rattle.table.specs.Plain.{row_words}
use Rattle.table.proofs.Tests.{Tried, passed, failed, try}
use Rattle.table.proofs.Lists.{below_suc}
use Rattle.table.proofs.Tables.{Table, row_fits}
use Rattle.checker.specs.Clocks.{Clock, every, same_clock}
use Rattle.checker.specs.Rules.{clock_of}
use Rattle.checker.proofs.RuleLaws.{Own, own_row}
use Rattle.checker.proofs.CheckLaws.{clock_local}
use Rattle.reach.specs.Sets.{Flows}

-- a register's source has its beat's clock
abbrev pub fits : (ℕ → Clock) → ℕ → ℕ → Bool
fits clk b a = same_clock (clk a) (clk b)

module _ (m : ℕ) (rows : List Row) where
  -- the set's flows below n have these clocks, and its registers below n sources that fit
  abbrev pub Known : Flows → (ℕ → Clock) → ℕ → Type 0
  Known s clk n = (f : ℕ) → f < n → s f ≡ true → clock_of clk f (row_at rows f) ≡ good (clk f)

  abbrev pub Passing : Flows → (ℕ → Clock) → ℕ → Type 0
  Passing s clk n = (f : ℕ) → f < n → s f ≡ true → on_register (fits clk) (row_at rows f) ≡ true

  pub record Accepting (s : Flows) : Type 0 where
    pub clk : ℕ → Clock
    pub known : Known s clk m
    pub passing : Passing s clk m

  pub data Refusing (s : Flows) : Refusal → ℕ → Type 0 where
    by_rule : (clk : ℕ → Clock) (why : Refusal) (g : ℕ) → g < m → s g ≡ true → Known s clk g → clock_of clk g (row_at rows g) ≡ refused why g → Refusing s why g
    by_source : (clk : ℕ → Clock) (g : ℕ) → g < m → s g ≡ true → Known s clk m → Passing s clk g → on_register (fits clk) (row_at rows g) ≡ false → Refusing s ClocksDiffer g

  pub data Outcome (s : Flows) : Type 0 where
    accepting : Accepting s → Outcome s
    refusing : (why : Refusal) (g : ℕ) → Refusing s why g → Outcome s

  -- the flow that is named is one of the set
  pub refused_in : (s : Flows) (why : Refusal) (g : ℕ) → Refusing s why g → (g < m) × (s g ≡ true)
  refused_in s why g (by_rule clk w h l e k r) = (l, e)
  refused_in s why g (by_source clk h l e k p r) = (l, e)

  -- A smaller set is accepted with the larger, and refused with it where it has the flow that is named.
  module _ (s t : Flows) (subset : (f : ℕ) → f < m → t f ≡ true → s f ≡ true) where
    abbrev pub inner_accepting : Accepting s → Accepting t
    inner_accepting a = record { clk = a.clk; known = λ f l e. a.known f l (subset f l e); passing = λ f l e. a.passing f l (subset f l e) }

    pub inner_refusing : (why : Refusal) (g : ℕ) → t g ≡ true → Refusing s why g → Refusing t why g
    inner_refusing why g x (by_rule clk w h l e k r) = by_rule clk w h l x (λ f i y. k f i (subset f (omega arith) y)) r
    inner_refusing why g x (by_source clk h l e k p r) = by_source clk h l x (λ f i y. k f i (subset f i y)) (λ f i y. p f i (subset f (omega arith) y)) r

-- ---- of a table, each set comes to one of them

-- clocks with that of flow n
abbrev with_clock : (ℕ → Clock) → ℕ → Clock → ℕ → Clock
with_clock clk n k f = cond (eqb f n) k (clk f)

module _ (m : ℕ) (words : List ℕ) (rows : List Row) (t : Table m words rows) (s : Flows) where
  fit : (f : ℕ) → f < m → Fits m f (row_at rows f)
  fit f l = row_fits m f (row_words words f) (row_at rows f) (t.row_at_lem f l)

  -- the clocks below n, or a refusal
  data Clocks (n : ℕ) : Type 0 where
    all : (clk : ℕ → Clock) → Known m rows s clk n → Clocks n
    stopped : (why : Refusal) (g : ℕ) → Refusing m rows s why g → Clocks n

  clocks : (n : ℕ) → n ≤ m → Clocks n
  clocks zero l = all (λ f. every 1 0) (λ f x. absurd (omega arith))
  clocks (suc n) l = next (clocks n (omega arith))
    where
      within : (clk : ℕ → Clock) → Known m rows s clk n → s n ≡ true → (v : Result Clock) → clock_of clk n (row_at rows n) ≡ v → Clocks (suc n)
      within clk h e (good k) v = all (with_clock clk n k) (below_suc (λ (f : ℕ). s f ≡ true → clock_of (with_clock clk n k) f (row_at rows f) ≡ good (with_clock clk n k f)) n before (λ x. here))
        where
          other : (f : ℕ) → f < n → clk f ≡ with_clock clk n k f
          other f x = rw (ne_eqb f n (λ (y : f ≡ n). omega arith))

          same : (f : ℕ) → f ≤ n → clock_of clk f (row_at rows f) ≡ clock_of (with_clock clk n k) f (row_at rows f)
          same f x = clock_local clk (with_clock clk n k) m f (row_at rows f) (fit f (omega arith)) (λ a y. other a (omega (arith, y)))

          before : (f : ℕ) → f < n → s f ≡ true → clock_of (with_clock clk n k) f (row_at rows f) ≡ good (with_clock clk n k f)
          before f x y = sym (same f (omega arith)) ∙ h f x y ∙ ap good (other f x)

          here : clock_of (with_clock clk n k) n (row_at rows n) ≡ good (with_clock clk n k n)
          here = sym (same n (omega arith)) ∙ v ∙ ap good (rw (eq-eqb n n refl))
      within clk h e (refused why g) v =
          let own : g ≡ n = subst (Own n) v (own_row clk n (row_at rows n)) in
          stopped why n (by_rule clk why n l e h (v ∙ ap (refused why) own))

      next : Clocks n → Clocks (suc n)
      next (stopped why g r) = stopped why g r
      next (all clk h) = go (try (s n))
        where
          go : Tried (s n) → Clocks (suc n)
          go (passed e) = within clk h e (clock_of clk n (row_at rows n)) refl
          go (failed e) = all clk (below_suc (λ (f : ℕ). s f ≡ true → clock_of clk f (row_at rows f) ≡ good (clk f)) n h (λ x. absurd (false≢true (sym e ∙ x))))

  -- the sources below n
  module _ (clk : ℕ → Clock) (known : Known m rows s clk m) where
    data Sources (n : ℕ) : Type 0 where
      pass : Passing m rows s clk n → Sources n
      fails : (g : ℕ) → Refusing m rows s ClocksDiffer g → Sources n

    sources : (n : ℕ) → n ≤ m → Sources n
    sources zero l = pass (λ f x. absurd (omega arith))
    sources (suc n) l = next (sources n (omega arith))
      where
        next : Sources n → Sources (suc n)
        next (fails g r) = fails g r
        next (pass h) = go (try (s n)) (try (on_register (fits clk) (row_at rows n)))
          where
            more : (s n ≡ true → on_register (fits clk) (row_at rows n) ≡ true) → Sources (suc n)
            more x = pass (below_suc (λ (f : ℕ). s f ≡ true → on_register (fits clk) (row_at rows f) ≡ true) n h x)

            go : Tried (s n) → Tried (on_register (fits clk) (row_at rows n)) → Sources (suc n)
            go (failed e) r = more (λ x. absurd (false≢true (sym e ∙ x)))
            go (passed e) (passed r) = more (λ x. r)
            go (passed e) (failed r) = fails n (by_source clk n l e known h r)

  pub outcome : Outcome m rows s
  outcome = go (clocks m (omega arith))
    where
      end : (clk : ℕ → Clock) (k : Known m rows s clk m) → Sources clk k m → Outcome m rows s
      end clk k (pass p) = accepting (record { clk = clk; known = k; passing = p })
      end clk k (fails g r) = refusing ClocksDiffer g r

      go : Clocks m → Outcome m rows s
      go (stopped why g r) = refusing why g r
      go (all clk k) = end clk k (sources clk k m (omega arith))

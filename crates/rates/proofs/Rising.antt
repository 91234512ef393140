-- In an accepted table the rates of a row's result and of the flows with which the row joins it give each other. Assumes nothing.
use mathlib.Core.Path.{◌≡◌, refl, sym, ◌∙◌, ap}
use Prim.Native.Nat.{ℕ, ◌+◌, ◌-◌, ◌*◌, ◌/◌, ◌≤◌}
use native.Mathlib.Nat.{mul-div_cancel, mul_comm}
use native.Mathlib.Omega.{arith}
use mathlib.Core.Bool.{Bool, true, false, false≢true}
use lib.Dec.{eqb, leb}
use borrow.Author.Tests.{eq-eqb, le-leb}
use Rattle.table.specs.Rows.{Row, input, constant, combine, register, faster, slower, later, head, tail, sample, merge, unrated, view, on_register}
use Rattle.table.specs.Tables.{Fits}
use Rattle.checker.specs.Clocks.{Clock, same_clock}
use Rattle.checker.specs.Rules.{max_derived}
use Rattle.checker.proofs.ClockLaws.{same_clock_lem}
use Rattle.checker.proofs.RuleLaws.{Rule, by_combine, by_register, by_faster, by_slower, by_later, by_head, by_tail, by_sample, by_merge, by_view}
use Rattle.checker.proofs.CheckLaws.{Sane, AllSane}
use Rattle.rates.specs.declared.steps.Rate.{Rate}
use Rattle.rates.specs.Private.Spread.{given, rise, fall}
use Rattle.rates.proofs.Joining.{JoinsHave}

abbrev pub rate : Clock → Rate
rate k = record { period = k.period; phase = k.phase }

pub rate_path : {n p n' p' : ℕ} → n ≡ n' → p ≡ p' → ◌≡◌ {A = Rate} (record { period = n; phase = p }) (record { period = n'; phase = p' })
rate_path x y = λ i. record { period = x i; phase = y i }

-- a register's source has its beat's clock
abbrev pub Sourced : (ℕ → Clock) → Row → Type 0
Sourced clk r = on_register (λ b a. same_clock (clk a) (clk b)) r ≡ true

-- a rate that is given
pub given_is : (t : Bool) (n p : ℕ) → t ≡ true → 1 ≤ n → n ≤ max_derived → p ≤ max_derived → given t n p ≡ record { period = n; phase = p }
given_is t n p e l u v = rw (e, le-leb 1 n l, le-leb n max_derived u, le-leb p max_derived v)

-- the rate of a sane clock, by a test that is passed
pub by_test : {clk : ℕ → Clock} (f : ℕ) (k : Clock) (t : Bool) (n p : ℕ) → Sane clk f k → t ≡ true → k.period ≡ n → k.phase ≡ p → rate k ≡ given t n p
by_test f k t n p s e x y =
    rate_path x y ∙ sym (given_is t n p e (omega (arith, s.positive)) (omega (arith, s.period_fits)) (omega (arith, s.phase_fits)))

-- a field that holds no flow
no : {A : Type 0} → false ≡ true → A
no e = absurd (false≢true e)

module _ (clk : ℕ → Clock) (m f : ℕ) where
  pub rises : (r : Row) (k : Clock) → Rule clk r k → Sourced clk r → Sane clk f k → JoinsHave (λ d. rate k ≡ rise r (rate (clk d))) r
  rises (input n p) k h s w = (no, no)
  rises (constant v n p) k h s w = (no, no)
  rises (combine op a b) k (by_combine x) s w = (λ e. refl, λ e. ap rate x)
  rises (register v b a) k by_register s w = (λ e. refl, λ e. ap rate (sym (same_clock_lem (clk a) (clk b) s)))
  rises (faster a c g) k (by_faster x y) s w = (λ e. by_test f k (eqb (clk a).period (c * g)) g (clk a).phase w (eq-eqb _ _ y) refl refl, no, no)
  rises (slower a c) k (by_slower x l) s w = (λ e. by_test f k true (c * (clk a).period) (clk a).phase w refl refl refl, no)
  rises (later a c) k (by_later x l) s w = (λ e. by_test f k true (clk a).period ((clk a).phase + c) w refl refl refl, no)
  rises (head a v c) k (by_head x y) s w = (λ e. by_test f k (eqb (clk a).phase (c + (clk a).period)) (clk a).period c w (eq-eqb _ _ y) refl refl, no)
  rises (tail a) k (by_tail x l) s w = (λ e. by_test f k true (clk a).period ((clk a).phase + (clk a).period) w refl refl refl, tt)
  rises (sample u a c) k (by_sample x l) s w = (λ e. refl, λ e. ap rate x)
  rises (merge c a b) k (by_merge x y) s w = (λ e. refl, λ e. sym (ap rate x), λ e. sym (ap rate y))
  rises unrated k h s w = tt
  rises (view u a c v) k (by_view x y h) s w = refl

  pub falls : (r : Row) (k : Clock) → Rule clk r k → Sourced clk r → Fits m f r → AllSane clk f → JoinsHave (λ d. rate (clk d) ≡ fall r (rate k)) r
  falls (input n p) k h s w l = (no, no)
  falls (constant v n p) k h s w l = (no, no)
  falls (combine op a b) k (by_combine x) s w l = (λ e. refl, λ e. ap rate (sym x))
  falls (register v b a) k by_register s w l = (λ e. refl, λ e. ap rate (same_clock_lem (clk a) (clk b) s))
  falls (faster a c g) k (by_faster x y) s w l = (λ e. by_test a (clk a) (eqb g g) (c * g) (clk a).phase (l a w.0) (eq-eqb g g refl) y refl, no, no)
  falls (slower a c) k (by_slower x i) s w l =
      let q : c * (clk a).period / c ≡ (clk a).period =
      ap (λ (n : ℕ). n / c) (mul_comm c (clk a).period) ∙ mul-div_cancel (clk a).period w.1.from in (
        λ e. by_test a (clk a) (eqb (c * (c * (clk a).period / c)) (c * (clk a).period)) (c * (clk a).period / c) (clk a).phase (l a w.0)
            (eq-eqb _ _ (ap (λ (n : ℕ). c * n) q)) (sym q) refl,
        no,
      )
  falls (later a c) k (by_later x i) s w l =
      (λ e. by_test a (clk a) (leb c ((clk a).phase + c)) (clk a).period ((clk a).phase + c - c) (l a w.0) (le-leb c ((clk a).phase + c) (omega arith)) refl (omega arith), no)
  falls (head a v c) k (by_head x y) s w l = (λ e. by_test a (clk a) (eqb c c) (clk a).period (c + (clk a).period) (l a w.0) (eq-eqb c c refl) refl y, no)
  falls (tail a) k (by_tail x i) s w l = (
    λ e. by_test a (clk a) (leb (clk a).period ((clk a).phase + (clk a).period)) (clk a).period ((clk a).phase + (clk a).period - (clk a).period) (l a w.0)
        (le-leb (clk a).period ((clk a).phase + (clk a).period) (omega arith)) refl (omega arith),
    tt,
  )
  falls (sample u a c) k (by_sample x i) s w l = (λ e. refl, λ e. ap rate (sym x))
  falls (merge c a b) k (by_merge x y) s w l = (λ e. refl, λ e. ap rate x, λ e. ap rate y)
  falls unrated k h s w l = tt
  falls (view u a c v) k (by_view x y h) s w l = refl

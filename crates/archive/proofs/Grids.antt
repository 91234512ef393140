-- The ticks of a progression below a tick, counted. Assumes nothing.
use mathlib.Core.Path.{◌≡◌, refl, sym, ◌∙◌, ap, subst}
use Prim.Native.Nat.{ℕ, zero, suc, ◌+◌, ◌*◌, ◌-◌, ◌/◌, ◌≤◌, ◌<◌}
use native.Mathlib.Nat.{mul-le-mul_right, suc-mul, div-eq_of_lt-le}
use native.Mathlib.Decide.{dec_lt}
use native.Mathlib.Omega.{arith}
use mathlib.Core.Bool.{Bool, true, false, cond}
use lib.Dec.{leb}
use borrow.Author.Tests.{le-leb, lt-leb}
use Rattle.std.specs.Int.{div_ceil}
use Rattle.std.proofs.lemmas.Grind.{div_ceil_times}
use Rattle.table.specs.Bits.{bit}
use Rattle.table.proofs.Tests.{Tried, passed, failed, try}
use Rattle.semantics.specs.Cells.{on_grid}
use Rattle.calendar.proofs.Grid.{On, on_of, off_grid}
use Rattle.archive.specs.Columns.{points}

-- c is how many ticks below the tick are on the progression: point j is below the tick exactly when j is below c
pub record Span (n p tick c : ℕ) : Type 0 where
  pub above : tick ≤ p + c * n
  pub below : (j : ℕ) → j < c → p + j * n < tick

-- the count of a tick on the progression is its number
number_is : (n p t c : ℕ) → 0 < n → Span n p t c → (o : On n p t) → o.whole ≡ c
number_is n p t c pos s o = go (dec_lt o.whole c) (dec_lt c o.whole)
  where
    go : Dec (o.whole < c) → Dec (c < o.whole) → o.whole ≡ c
    go (yes x) y = absurd (omega (arith, s.below o.whole x, o.eq))
    go (no x) (yes y) = absurd (let m : suc c * n ≤ o.whole * n = mul-le-mul_right n y in omega (arith, s.above, o.eq, suc-mul c n))
    go (no x) (no y) = omega arith

pub span : (n p t : ℕ) → 0 < n → Span n p t (points n p t)
unfolding points
span n p zero pos = record { above = omega arith; below = λ j l. absurd (omega arith) }
span n p (suc t) pos = go (span n p t pos) (try (on_grid n p t))
  where
    c : ℕ
    c = points n p t

    go : Span n p t c → Tried (on_grid n p t) → Span n p (suc t) (c + bit (on_grid n p t))
    go s (passed e) =
        let o : On n p t = on_of n p t e in
        let q : o.whole ≡ c = number_is n p t c pos s o in
        let r : t ≡ p + c * n = o.eq ∙ ap (λ (i : ℕ). p + i * n) q in
        rw e
        record {
          above = omega (arith, suc-mul c n);
          below = λ j l. elim (dec_lt j c) [ yes y ↦ omega (arith, s.below j y) | no y ↦ let z : j ≡ c = omega arith in omega (arith, ap (λ (i : ℕ). i * n) z) ];
        }
    go s (failed e) =
        let ne : (t ≡ p + c * n → ⊥) = λ x. off_grid e record { whole = c; eq = x } in
        rw e
        record {
          above = elim (dec_lt t (p + c * n)) [ yes y ↦ omega arith | no y ↦ absurd (ne (omega (arith, s.above))) ];
          below = λ j l. omega (arith, s.below j (omega arith));
        }

one_bit : (b : Bool) → bit b ≤ 1
one_bit true = omega arith
one_bit false = omega arith

pub few_points : (n p t : ℕ) → points n p t ≤ t
unfolding points
few_points n p zero = omega arith
few_points n p (suc t) = omega (arith, few_points n p t, one_bit (on_grid n p t))

-- what does not fall from one number to the next does not fall
pub rising : (h : ℕ → ℕ) → ((i : ℕ) → h i ≤ h (suc i)) → (s t : ℕ) → s ≤ t → h s ≤ h t
rising h step s zero l = let q : s ≡ 0 = omega arith in omega (arith, ap h q)
rising h step s (suc t) l =
    elim (dec_lt t s) [
      | yes y ↦ let q : s ≡ suc t = omega arith in omega (arith, ap h q)
      | no y ↦ omega (arith, rising h step s t (omega arith), step t)
    ]

-- more ticks have no fewer points
pub more_points : (n p s t : ℕ) → s ≤ t → points n p s ≤ points n p t
unfolding points
more_points n p = rising (points n p) (λ i. omega arith)

-- a tick on the progression is counted
pub one_more : (n p t : ℕ) → on_grid n p t ≡ true → points n p (suc t) ≡ points n p t + 1
unfolding points
one_more n p t e = rw e

pub none_more : (n p t : ℕ) → on_grid n p t ≡ false → points n p (suc t) ≡ points n p t
unfolding points
none_more n p t e = rw e (omega arith)

pub before_last : (n p t ticks : ℕ) → on_grid n p t ≡ true → t < ticks → points n p t < points n p ticks
before_last n p t ticks e l = omega (arith, one_more n p t e, more_points n p (suc t) ticks l)

module _ (n p : ℕ) (pos : 0 < n) where
  -- a tick on the progression is its point of that number
  pub tick_is : (t : ℕ) → on_grid n p t ≡ true → t ≡ p + points n p t * n
  tick_is t e =
      let o : On n p t = on_of n p t e in
      o.eq ∙ ap (λ (i : ℕ). p + i * n) (number_is n p t (points n p t) pos (span n p t pos) o)

  -- one that is not lies before its next point
  pub tick_before : (t : ℕ) → on_grid n p t ≡ false → t < p + points n p t * n
  tick_before t e =
      elim (dec_lt t (p + points n p t * n)) [
        | yes y ↦ y
        | no y ↦ absurd (off_grid {n = n} {p = p} {t = t} e record { whole = points n p t; eq = omega (arith, (span n p t pos).above) })
      ]

  -- a count that spans is the count
  pub span_is : (t c : ℕ) → Span n p t c → points n p t ≡ c
  span_is t c s = go (dec_lt c (points n p t)) (dec_lt (points n p t) c)
    where
      go : Dec (c < points n p t) → Dec (points n p t < c) → points n p t ≡ c
      go (yes x) y = absurd (omega (arith, (span n p t pos).below c x, s.above))
      go (no x) (yes y) = absurd (omega (arith, s.below (points n p t) y, (span n p t pos).above))
      go (no x) (no y) = omega arith

  pub point_below : (t j : ℕ) → j < points n p t → p + j * n < t
  point_below t j l = (span n p t pos).below j l

  pub point_above : (t j : ℕ) → points n p t ≤ j → t ≤ p + j * n
  point_above t j l = let m : points n p t * n ≤ j * n = mul-le-mul_right n l in omega (arith, (span n p t pos).above)

  -- the ticks from the phase on by periods, rounded up
  pub points_ceil : (t : ℕ) → div_ceil (t - p) n ≡ points n p t
  points_ceil t = sym (span_is t (div_ceil (t - p) n) record { above = omega (arith, (div_ceil_times (t - p) n pos).0); below = below })
    where
      below : (j : ℕ) → j < div_ceil (t - p) n → p + j * n < t
      below j l =
          let m : suc j * n ≤ div_ceil (t - p) n * n = mul-le-mul_right n l in
          omega (arith, suc-mul j n, (div_ceil_times (t - p) n pos).1)

  -- the formula
  pub points_formula : (t : ℕ) → points n p t ≡ cond (leb t p) 0 ((t - p - 1) / n + 1)
  points_formula t = go (dec_lt p t)
    where
      go : Dec (p < t) → points n p t ≡ cond (leb t p) 0 ((t - p - 1) / n + 1)
      go (no y) = rw (le-leb t p (omega arith)) (span_is t 0 record { above = omega arith; below = λ j l. absurd (omega arith) })
      go (yes y) = rw (lt-leb t p y) (at (points n p t) refl)
        where
          at : (c : ℕ) → points n p t ≡ c → c ≡ (t - p - 1) / n + 1
          at zero e = absurd (omega (arith, (span n p t pos).above, ap (λ (i : ℕ). i * n) e))
          at (suc c) e =
              let a : t ≤ p + suc c * n = subst (λ (i : ℕ). t ≤ p + i * n) e (span n p t pos).above in
              let q : (t - p - 1) / n ≡ c = div-eq_of_lt-le {k = c} n (omega (arith, point_below t c (omega arith))) (omega (arith, suc-mul c n)) in
              omega arith

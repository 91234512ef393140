-- A flow on a progression that is governed by another one, looked at once a view period. Assumes nothing.
use mathlib.Core.Path.{◌≡◌, refl, sym, ◌∙◌, ap}
use Prim.Native.Nat.{ℕ, suc, ◌+◌, ◌*◌, ◌-◌, ◌%◌, ◌/◌, ◌≤◌, ◌<◌}
use native.Mathlib.Nat.{div-add-mod'}
use native.Mathlib.Decide.{dec_lt}
use native.Mathlib.Omega.{arith}
use mathlib.Core.Bool.{Bool, true, ◌&&◌, beq, true≢false, false≢true, and-true}
use mathlib.Core.List.{[], ◌∷◌}
use mathlib.Core.Option.{none, some}
use lib.ListN.{length}
use lib.Dec.{eqb}
use borrow.Author.Tests.{eqb-false, ne_eqb}
use Rattle.table.proofs.Tests.{Tried, passed, failed, try}
use Rattle.semantics.specs.Cells.{Cell, absent, present, mark, History, cell_on, first_or, first}
use Rattle.semantics.specs.Operators.{truth_of, looked_at, governed, viewed}
use Rattle.calendar.specs.Calendar.{read_at}
use Rattle.semantics.proofs.Traces.{tick_back}
use Rattle.calendar.proofs.Grid.{On, on_of, at_first, before_first}
use Rattle.calendar.proofs.Flows.{Makes, cond_mark, Regular, on_back}
use Rattle.calendar.proofs.Dues.{holds, made}

-- the first presence of a flow on a progression is at its phase
none_yet : (n p : ℕ) (h : History) → Regular n p h → length h ≤ p → first h ≡ none
unfolding first
none_yet n p [] g l = refl
none_yet n p (absent ∷ h) g l = rw (none_yet n p h g.1 (omega arith))
none_yet n p (present v ∷ h) g l = absurd (true≢false (g.0 ∙ before_first n p (length h) (omega arith)))

first_on : (n p : ℕ) (h : History) → Regular n p h → p < length h → first h ≡ some p
unfolding first
first_on n p [] g l = absurd (omega arith)
first_on n p (c ∷ h) g l = go (dec_lt p (length h)) (first_on n p h g.1)
  where
    here : (c : Cell) → mark c ≡ true → length h ≡ p → first_or none (length h) c ≡ some p
    here absent m e = absurd (false≢true m)
    here (present v) m e = ap some e

    go : Dec (p < length h) → (p < length h → first h ≡ some p) → first_or (first h) (length h) c ≡ some p
    go (yes y) r = rw (r y)
    go (no y) r =
        let e : length h ≡ p = omega arith in
        rw (none_yet n p h g.1 (omega arith)) (here c (g.0 ∙ at_first n p (length h) e) e)

pub begins_at : (n p : ℕ) (h : History) → Regular n p h → (s : ℕ) → first h ≡ some s → s ≡ p
begins_at n p h g s e = go (dec_lt p (length h))
  where
    go : Dec (p < length h) → s ≡ p
    go (yes l) = let z : some s ≡ some p = sym e ∙ first_on n p h g l in cc
    go (no l) = let z : none ≡ some s = sym (none_yet n p h g (omega arith)) ∙ e in absurd (let y : ◌≡◌ {A = ℕ} 0 1 = cc in omega arith)

-- a condition is not read past the tick for which it is read
pub read_by : (w p q t : ℕ) → p ≤ t → (0 < w → q ≤ p) → read_at w p q t ≤ t
read_by w p q t l b = go (try (eqb w 0))
  where
    go : Tried (eqb w 0) → read_at w p q t ≤ t
    go (passed e) = rw e (omega arith)
    go (failed e) =
        let x : (w ≡ 0 → ⊥) = eqb-false _ _ e in
        let y : q ≤ p = b (omega arith) in
        rw e (omega (arith, div-add-mod' (t - p) w))

-- A viewed one is read at the tick at which the operator looks, and that is on its flow's progression where the view period is a multiple of
-- the flow's period.
module _ (w p q t : ℕ) (pos : 0 < w) where
  viewed_at : looked_at w p q t ≡ read_at w p q t
  viewed_at = rw (ne_eqb w 0 (λ (e : w ≡ 0). omega arith)) (omega arith)

  read_on : (n : ℕ) → w % n ≡ 0 → On n q (read_at w p q t)
  read_on n e =
      let i : ℕ = (t - p) / w in
      let d : w ≡ w / n * n = omega (arith, div-add-mod' w n) in
      let m : w * i ≡ i * (w / n) * n = ap (λ (x : ℕ). x * i) d ∙ omega arith in
      record { whole = i * (w / n); eq = rw (ne_eqb w 0 (λ (z : w ≡ 0). omega arith)) (omega arith) }

governed_law : (u : Bool) (x : ℕ) (s : Cell) → mark s ≡ true → Makes (governed u x s) (holds u s)
governed_law u x absent e = absurd (false≢true e)
governed_law u x (present v) e = made _ _ (cond_mark (beq (truth_of v) u) (present x) ∙ and-true _)

-- A view of flows with phases p and q does not clash, and is present when a is and the condition holds at the tick at which it is read.
pub view_law : (n p : ℕ) (a : Cell) (h : History) → Regular n p (a ∷ h) → (m q : ℕ) (c : Cell) (k : History) → Regular m q (c ∷ k) → length h ≡ length k
    → (u : Bool) (w : ℕ) → 0 < w → w % m ≡ 0 → q ≤ p → Makes (viewed u w a h c k) (mark a && holds u (cell_on (c ∷ k) (read_at w p q (length h))))
unfolding viewed
view_law n p absent h g m q c k r s u w pos e l = made absent _ refl
view_law n p (present x) h g m q c k r s u w pos e l =
    let o : On n p (length h) = on_of n p _ (sym g.0) in
    let v : ℕ = read_at w p q (length h) in
    let z : v ≤ length h = read_by w p q (length h) (omega (arith, o.eq)) (λ y. l) in
    let i : v + suc (length k - v) ≡ suc (length k) = omega arith in
    let there : mark (cell_on (c ∷ k) v) ≡ true =
    ap mark (tick_back (c ∷ k) v (length k - v) i) ∙ on_back m q (c ∷ k) (length k - v) r record { tick = v; place = i; on = read_on w p q (length h) pos m e } in
    rw (first_on n p (present x ∷ h) g (omega (arith, o.eq)), first_on m q (c ∷ k) r (omega (arith, o.eq)), viewed_at w p q (length h) pos)
    (governed_law u x (cell_on (c ∷ k) v) there)

-- A trace is judged cell by cell: a flow is due where its next due tick has come. Assumes nothing.
use mathlib.Core.Path.{◌≡◌, refl, sym, ◌∙◌, ap, subst}
use Prim.Native.Nat.{ℕ, suc, ◌+◌, ◌*◌, ◌≤◌, ◌<◌, ◌^◌}
use native.Mathlib.Nat.{suc-mul}
use native.Mathlib.Numerals.{add-one}
use native.Mathlib.Omega.{arith}
use mathlib.Core.Bool.{Bool, true, false, cond, false≢true}
use mathlib.Core.List.{List}
use lib.ListN.{get_or}
use lib.Dec.{eqb}
use borrow.Author.Tests.{eq-eqb, ne_eqb, eqb-true, eqb-false}
use Rattle.table.specs.Bits.{bit}
use Rattle.table.proofs.Tests.{Tried, passed, failed, try}
use Rattle.table.proofs.Lists.{below_suc}
use Rattle.checker.specs.Clocks.{Clock}
use Rattle.checker.specs.Rules.{max_derived, clock_at}
use Rattle.semantics.specs.Cells.{on_grid}
use Rattle.calendar.specs.Calendar.{cell_at}
use Rattle.archive.specs.Columns.{points, cell_fits, column_fits}
use Rattle.archive.specs.Traces.{column, trace_fits}
use Rattle.archive.specs.Private.Steps.{period_in, phase_in, clocks_in, Sound, next_from, next_in, Carried, fits_at, cell_told, AllTold, TickFits}
use Rattle.archive.proofs.Grids.{one_more, none_more, tick_is, tick_before}
use Rattle.archive.proofs.Columns.{fits_at_lem, fits_of}
use Rattle.archive.proofs.Traces.{trace_fits_at, trace_fits_of}
use Rattle.archive.proofs.Held.{clock_at_lem}

-- THE NEXT DUE TICK
module _ (n p : ℕ) (pos : 0 < n) (t : ℕ) where
  next_now : eqb (next_from n p t) t ≡ on_grid n p t
  next_now = go (try (on_grid n p t))
    where
      go : Tried (on_grid n p t) → eqb (next_from n p t) t ≡ on_grid n p t
      go (passed e) = eq-eqb (next_from n p t) t (sym (tick_is n p pos t e)) ∙ sym e
      go (failed e) = ne_eqb (next_from n p t) t (λ (x : next_from n p t ≡ t). omega (arith, tick_before n p pos t e)) ∙ sym e

  next_after : cond (eqb (next_from n p t) t) (t + n) (next_from n p t) ≡ next_from n p (t + 1)
  next_after = rw next_now (go (try (on_grid n p t)) ∙ ap (next_from n p) (sym (add-one t)))
    where
      go : Tried (on_grid n p t) → cond (on_grid n p t) (t + n) (next_from n p t) ≡ next_from n p (suc t)
      go (passed e) =
          rw (e, one_more n p t e) (omega (arith, tick_is n p pos t e, suc-mul (points n p t) n, ap (λ (i : ℕ). i * n) (add-one (points n p t))))
      go (failed e) = rw (e, none_more n p t e)

-- ONE CELL, by numbers that are 0 or 1
pub one_of_lem : (b : Bool) → eqb (bit b) 1 ≡ b
one_of_lem true = refl
one_of_lem false = refl

-- its next due tick moves on where it has come
pub moved_is : (x t n due : ℕ) → due ≡ bit (eqb x t) → x + due * n ≡ cond (eqb x t) (t + n) x
moved_is x t n due e = rw e (go (try (eqb x t)))
  where
    go : Tried (eqb x t) → x + bit (eqb x t) * n ≡ cond (eqb x t) (t + n) x
    go (passed p) = rw p (omega (arith, eqb-true x t p))
    go (failed p) = rw p (omega arith)

pub moved_small : (x t n due : ℕ) → due ≡ bit (eqb x t) → x < 2 ^ 32 → t < 2 ^ 24 → n ≤ max_derived → x + due * n < 2 ^ 32
moved_small x t n due e a b l = rw (moved_is x t n due e) (go (eqb x t))
  where
    go : (d : Bool) → cond d (t + n) x < 2 ^ 32
    go true = omega arith
    go false = a

-- THE CELLS OF A TICK, flow by flow: what they add is 0 so far, or it is not
module _ (m t : ℕ) (marks values next : List ℕ) where
  pub told_next : (f wrong r : ℕ) → eqb r 0 ≡ cell_told m t marks values next f → AllTold m t marks values next f (eqb wrong 0)
      → AllTold m t marks values next (f + 1) (eqb (wrong + r) 0)
  told_next f wrong r e h = go (try (eqb wrong 0)) (try (eqb r 0))
    where
      go : Tried (eqb wrong 0) → Tried (eqb r 0) → AllTold m t marks values next (f + 1) (eqb (wrong + r) 0)
      go (passed p) (passed q) =
          subst (AllTold m t marks values next (f + 1)) (sym (eq-eqb (wrong + r) 0 (omega (arith, eqb-true wrong 0 p, eqb-true r 0 q))))
          (λ g l. below_suc (λ (i : ℕ). cell_told m t marks values next i ≡ true) f (subst (AllTold m t marks values next f) p h) (sym e ∙ q) g (omega arith))
      go (passed p) (failed q) =
          subst (AllTold m t marks values next (f + 1)) (sym (ne_eqb (wrong + r) 0 (λ (z : wrong + r ≡ 0). eqb-false r 0 q (omega arith)))) (f, omega arith, sym e ∙ q)
      go (failed p) q =
          let x = subst (AllTold m t marks values next f) p h in
          subst (AllTold m t marks values next (f + 1)) (sym (ne_eqb (wrong + r) 0 (λ (z : wrong + r ≡ 0). eqb-false wrong 0 p (omega arith)))) (x.0, omega (arith, x.1), x.2)

-- ONE TICK by the clocks, where the next due ticks are theirs
module _ (m : ℕ) (clocks marks values : List ℕ) (sound : Sound m clocks) (t : ℕ) (next : List ℕ) (h : Carried 0 m (next_in clocks) t next) where
  cell_is : (f : ℕ) → f < m → cell_told m t marks values next f ≡ fits_at m clocks marks values t f
  cell_is f l =
      ap (λ (d : Bool). cell_fits d (cell_at m marks t f) (cell_at m values t f))
      (ap (λ (i : ℕ). eqb i t) (h.each f l) ∙ next_now (period_in clocks f) (phase_in clocks f) (sound.positive f l) t)

  module _ (periods next' : List ℕ) where
    pub tick_fit : TickFits m t periods marks values next next' true → (f : ℕ) → f < m → fits_at m clocks marks values t f ≡ true
    tick_fit x f l = sym (cell_is f l) ∙ x.told f l

    pub tick_misfit : TickFits m t periods marks values next next' false → (f : ℕ) × (f < m) × (fits_at m clocks marks values t f ≡ false)
    tick_misfit x = let y = x.told in (y.0, y.1, sym (cell_is y.0 y.1) ∙ y.2)

    pub tick_moved : (r : Bool) → TickFits m t periods marks values next next' r → Carried 0 m (λ (s f : ℕ). period_in clocks f) 0 periods
        → Carried 0 m (next_in clocks) (t + 1) next'
    tick_moved r x p =
        record {
          each =
              λ f l.
              x.moved f l
              ∙ ap (λ (n : ℕ). cond (eqb (get_or next f 0) t) (t + n) (get_or next f 0)) (p.each f l)
              ∙ ap (λ (i : ℕ). cond (eqb i t) (t + period_in clocks f) i) (h.each f l)
              ∙ next_after (period_in clocks f) (phase_in clocks f) (sound.positive f l) t;
        }

-- ALL TICKS
module _ (m : ℕ) (clocks marks values : List ℕ) where
  pub ticks_more : (t : ℕ) → ((s : ℕ) → s < t → (f : ℕ) → f < m → fits_at m clocks marks values s f ≡ true)
      → ((f : ℕ) → f < m → fits_at m clocks marks values t f ≡ true) → (s : ℕ) → s < t + 1 → (f : ℕ) → f < m → fits_at m clocks marks values s f ≡ true
  ticks_more t h e s l = below_suc (λ (i : ℕ). (f : ℕ) → f < m → fits_at m clocks marks values i f ≡ true) t h e s (omega arith)

  module _ (ticks : ℕ) where
    column_is : (f : ℕ) → f < m
        → column_fits (clock_at (clocks_in m clocks) f).period (clock_at (clocks_in m clocks) f).phase (column m marks f) (column m values f) ticks
        ≡ column_fits (period_in clocks f) (phase_in clocks f) (column m marks f) (column m values f) ticks
    column_is f l = ap (λ (k : Clock). column_fits k.period k.phase (column m marks f) (column m values f) ticks) (clock_at_lem m clocks f l)

    pub trace_fit : ((t : ℕ) → t < ticks → (f : ℕ) → f < m → fits_at m clocks marks values t f ≡ true) → true ≡ trace_fits (clocks_in m clocks) m marks values ticks m
    trace_fit h =
        sym
        (trace_fits_of (clocks_in m clocks) m marks values ticks m λ f l.
        column_is f l ∙ fits_of (period_in clocks f) (phase_in clocks f) (column m marks f) (column m values f) ticks (λ t k. h t k f l))

    pub trace_misfit : (t f : ℕ) → t < ticks → f < m → fits_at m clocks marks values t f ≡ false → false ≡ trace_fits (clocks_in m clocks) m marks values ticks m
    trace_misfit t f l k e = go (try (trace_fits (clocks_in m clocks) m marks values ticks m))
      where
        go : Tried (trace_fits (clocks_in m clocks) m marks values ticks m) → false ≡ trace_fits (clocks_in m clocks) m marks values ticks m
        go (failed x) = sym x
        go (passed x) =
            absurd
            (false≢true
            (sym e
            ∙ fits_at_lem (period_in clocks f) (phase_in clocks f) (column m marks f) (column m values f) ticks
            (sym (column_is f k) ∙ trace_fits_at (clocks_in m clocks) m marks values ticks m x f k) t l))

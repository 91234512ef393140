-- The clocks that the code holds, and what it carries of each flow from tick to tick. Assumes nothing.
use mathlib.Core.Path.{◌≡◌, refl, ◌∙◌, ap}
use Prim.Native.Nat.{ℕ, zero, suc, ◌+◌, ◌*◌, ◌-◌, ◌≤◌, ◌<◌, ◌^◌}
use native.Mathlib.Nat.{suc-mul, mul-le-mul_right}
use native.Mathlib.Numerals.{add-one}
use native.Mathlib.Omega.{arith}
use mathlib.Core.List.{List}
use lib.ListN.{length, get_or, set}
use lib.Seq.{get_or-set_same, get_or-set_other}
use Rattle.table.specs.Rows.{max_flows}
use Rattle.table.proofs.Lists.{below_suc}
use Rattle.table.proofs.PlainRows.{per_entry}
use Rattle.checker.specs.Clocks.{Clock, every}
use Rattle.checker.specs.Rules.{clock_at}
use Rattle.archive.specs.Columns.{points}
use Rattle.archive.specs.Traces.{words_before}
use Rattle.archive.specs.declared.plan.Next.{Next}
use Rattle.archive.specs.Private.Steps.{period_in, phase_in, clock_in, clocks_in, next_from, next_in, place_in, next_at, moved_to, Carried}
use Rattle.archive.proofs.Grids.{Span, span, span_is, few_points, more_points}
use Rattle.archive.proofs.Traces.{next_words, more_words}

-- a tick with a place, by its parts
pub next_is : {n k : Next} → n.tick ≡ k.tick → n.place ≡ k.place → n ≡ k
next_is a b = λ i. record { tick = a i; place = b i }

module _ (m : ℕ) (clocks : List ℕ) where
  pub clock_at_lem : (f : ℕ) → f < m → clock_at (clocks_in m clocks) f ≡ clock_in clocks f
  unfolding clocks_in
  clock_at_lem f l = per_entry (clock_in clocks) (every 1 0) m f l

  -- how many words there are
  module _ (ticks : ℕ) where
    pub words_none : words_before (clocks_in m clocks) ticks 0 ≡ 0
    unfolding words_before
    words_none = refl

    pub words_next : (f : ℕ) → f < m
        → words_before (clocks_in m clocks) ticks (f + 1) ≡ words_before (clocks_in m clocks) ticks f + points (period_in clocks f) (phase_in clocks f) ticks
    words_next f l =
        ap (words_before (clocks_in m clocks) ticks) (add-one f)
        ∙ next_words (clocks_in m clocks) ticks f
        ∙ ap (λ (k : Clock). words_before (clocks_in m clocks) ticks f + points k.period k.phase ticks) (clock_at_lem f l)

    pub words_most : (f : ℕ) → words_before (clocks_in m clocks) ticks f ≤ f * ticks
    unfolding words_before
    words_most zero = omega arith
    words_most (suc f) =
        omega (arith, words_most f, few_points (clock_at (clocks_in m clocks) f).period (clock_at (clocks_in m clocks) f).phase ticks, suc-mul f ticks)

    pub words_fit : m ≤ max_flows → ticks < 2 ^ 24 → words_before (clocks_in m clocks) ticks m < 2 ^ 32
    words_fit few l = omega (arith, words_most m, mul-le-mul_right ticks few)

    -- the words of a flow end where those of a later one begin
    pub words_end : (g f : ℕ) → g < f → f ≤ m
        → words_before (clocks_in m clocks) ticks g + points (period_in clocks g) (phase_in clocks g) ticks ≤ words_before (clocks_in m clocks) ticks f
    words_end g f l k = omega (arith, words_next g (omega arith), more_words (clocks_in m clocks) ticks (g + 1) f (omega arith))

-- WHAT IS KEPT OF EACH FLOW, moved on flow by flow: that of the flows before f is new, the others' old
pub record Moved {A : Type 0} (d : A) (m : ℕ) (old new : ℕ → A) (f : ℕ) (kept : List A) : Type 0 where
  pub passed : (g : ℕ) → g < f → get_or kept g d ≡ new g
  pub coming : (g : ℕ) → f ≤ g → g < m → get_or kept g d ≡ old g

-- one flow more
set_more : {A : Type 0} (d : A) (of : ℕ → A) (f : ℕ) (v : A) (kept : List A) → f < length kept → v ≡ of f → ((g : ℕ) → g < f → get_or kept g d ≡ of g)
    → (g : ℕ) → g < f + 1 → get_or (set kept f v) g d ≡ of g
set_more d of f v kept l e h g x =
    below_suc (λ (i : ℕ). get_or (set kept f v) i d ≡ of i) f (λ i y. get_or-set_other kept f i v d (λ q. omega arith) ∙ h i y)
    (get_or-set_same kept f v d l ∙ e) g (omega arith)

module _ {A : Type 0} {d : A} {f : ℕ} {v : A} {kept : List A} where
  pub carried_next : {of : ℕ → ℕ → A} {t : ℕ} → f < length kept → v ≡ of t f → Carried d f of t kept → Carried d (f + 1) of t (set kept f v)
  carried_next {of} {t} l e h = record { each = set_more d (of t) f v kept l e h.each }

  pub moved_next : {m : ℕ} {old new : ℕ → A} → f < length kept → v ≡ new f → Moved d m old new f kept → Moved d m old new (f + 1) (set kept f v)
  moved_next {m} {old} {new} l e h =
      record {
        passed = λ g x. set_more d new f v kept l e h.passed g x;
        coming = λ g x y. get_or-set_other kept f g v d (λ q. omega arith) ∙ h.coming g (omega arith) y;
      }

-- THE NEXT DUE TICKS AND PLACES at the first tick
module _ (m : ℕ) (clocks : List ℕ) where
  pub first_tick : (f : ℕ) → phase_in clocks f ≡ next_in clocks 0 f
  unfolding points
  first_tick f = omega arith

  pub first_place : (ticks f w : ℕ) → w ≡ words_before (clocks_in m clocks) ticks f → w ≡ place_in m clocks ticks 0 f
  unfolding points
  first_place ticks f w e = omega arith

  pub first_next : (ticks f tick place : ℕ) → tick ≡ phase_in clocks f → place ≡ words_before (clocks_in m clocks) ticks f
      → (let next : Next = record { tick = tick; place = place } in next ≡ next_at m clocks ticks 0 f)
  first_next ticks f tick place a b = next_is (a ∙ first_tick f) (first_place ticks f place b)

-- and at the end of a block: a flow's due ticks from one tick on are a progression of their own
module _ (n p : ℕ) (pos : 0 < n) (begin end : ℕ) (l : begin ≤ end) where
  pub points_from : points n p begin + points n (next_from n p begin) end ≡ points n p end
  points_from =
      let c : ℕ = points n p begin in
      let d : ℕ = points n p end - c in
      let e : c + d ≡ points n p end = omega (arith, more_points n p begin end l) in
      let s : Span n (next_from n p begin) end d =
      record {
        above = omega (arith, (span n p end pos).above, ap (λ (i : ℕ). i * n) e);
        below = λ j k. omega (arith, (span n p end pos).below (c + j) (omega arith));
      } in
      omega (arith, span_is n (next_from n p begin) pos end d s)

  pub next_from_lem : next_from n (next_from n p begin) end ≡ next_from n p end
  next_from_lem = omega (arith, ap (λ (i : ℕ). i * n) points_from)

pub from_begin : (n p : ℕ) → 0 < n → (begin : ℕ) → begin ≤ next_from n p begin
from_begin n p pos begin = (span n p begin pos).above

-- what a block moves flow f to, from its place before the block
module _ (m : ℕ) (clocks : List ℕ) (ticks begin end f : ℕ) (pos : 0 < period_in clocks f) (l : begin ≤ end) (from : Next)
    (at : from ≡ next_at m clocks ticks begin f) where
  pub moved_on_lem : moved_to (period_in clocks f) from end ≡ next_at m clocks ticks end f
  moved_on_lem =
      ap (λ (k : Next). moved_to (period_in clocks f) k end) at
      ∙ next_is (next_from_lem (period_in clocks f) (phase_in clocks f) pos begin end l)
      (omega (arith, points_from (period_in clocks f) (phase_in clocks f) pos begin end l))

  -- its words of the block are among its words
  pub place_within : end ≤ ticks → f < m → from.place + points (period_in clocks f) from.tick end ≤ words_before (clocks_in m clocks) ticks m
  place_within b k =
      omega (
        arith,
        ap (λ (x : Next). x.place + points (period_in clocks f) x.tick end) at,
        points_from (period_in clocks f) (phase_in clocks f) pos begin end l,
        more_points (period_in clocks f) (phase_in clocks f) end ticks b,
        words_end m clocks ticks f m k (omega arith),
      )

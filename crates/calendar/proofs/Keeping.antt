-- Rows whose clocks the rules give keep them, tick by tick. Assumes nothing.
use mathlib.Core.Path.{◌≡◌, refl, sym, ◌∙◌, ap, subst}
use Prim.Native.Nat.{ℕ, suc, ◌+◌, ◌≤◌, ◌<◌}
use native.Mathlib.Omega.{arith}
use mathlib.Core.Bool.{Bool, true, false, ◌&&◌, and-true}
use mathlib.Core.List.{List, [], ◌∷◌, ◌++◌}
use lib.ListN.{length, length-append, get_or-append}
use lib.Seq.{get_or-append_seam}
use Rattle.table.specs.Rows.{Row, input, constant, combine, register, faster, slower, later, head, tail, sample, merge, view, unrated}
use Rattle.table.proofs.Lists.{below_suc}
use Rattle.table.specs.Tables.{Fits}
use Rattle.table.proofs.Tables.{AllFit}
use Rattle.checker.specs.Clocks.{Clock, every, plain, under}
use Rattle.checker.proofs.RuleLaws.{Rule, by_input, by_constant, by_combine, by_register, by_faster, by_slower, by_later, by_head, by_tail}
use Rattle.checker.proofs.RuleLaws.{by_sample, by_merge, by_view, rule_of_lem}
use Rattle.checker.proofs.CheckLaws.{Clocked, AllSane, below_le}
use Rattle.semantics.specs.Cells.{Cell, absent, present, mark, on_grid}
use Rattle.semantics.specs.Operators.{Step}
use Rattle.semantics.specs.Runs.{Tick, Ticks, cell_in, history, cell_of, flows_from}
use Rattle.semantics.proofs.Traces.{history_length}
use Rattle.calendar.proofs.Flows.{Makes, cond_mark, Regular, faster_law, slower_law, later_law, tail_law, head_law}
use Rattle.calendar.proofs.Dues.{holds, due, due_plain, due_under, due_append, made, combined_law, registered_law, sampled_law}
use Rattle.calendar.proofs.Dues.{due_direct, merged_law}
use Rattle.calendar.proofs.Views.{view_law}

-- flow f keeps its clock at each of the ticks
abbrev pub Keeps : (ℕ → Clock) → Ticks → ℕ → Type 0
Keeps clk [] f = Unit {0}
Keeps clk (now ∷ past) f = (mark (cell_in now f) ≡ due clk (clk f) now past) × Keeps clk past f

-- so do the flows below m
abbrev pub Kept : (ℕ → Clock) → ℕ → Ticks → Type 0
Kept clk m past = (f : ℕ) → f < m → Keeps clk past f

-- a flow that keeps a plain clock is regular
module _ (clk : ℕ → Clock) where
  pub regular_past : (past : Ticks) (f : ℕ) → plain (clk f) ≡ true → Keeps clk past f → Regular (clk f).period (clk f).phase (history past f)
  unfolding history
  regular_past [] f e g = tt
  regular_past (now ∷ past) f e g = (rw (history_length past f) (g.0 ∙ due_plain clk (clk f) now past e), regular_past past f e g.1)

  pub regular :
      (now : Tick) (past : Ticks) (f : ℕ) → plain (clk f) ≡ true → Keeps clk (now ∷ past) f
      → Regular (clk f).period (clk f).phase (cell_in now f ∷ history past f)
  unfolding history
  regular now past f e g = regular_past (now ∷ past) f e g

-- The row of a flow whose clock the rules give does not clash, and is present when due.
module _ (rows : List Row) (log : List ℕ) (clk : ℕ → Clock) (past : Ticks) (now : Tick)
    (sane : AllSane clk (length now)) (kept : Kept clk (length now) (now ∷ past)) where
  mark_of : (a : ℕ) → a < length now → mark (cell_in now a) ≡ due clk (clk a) now past
  mark_of a l = (kept a l).0

  same_marks : (a b : ℕ) → a < length now → b < length now → clk a ≡ clk b → mark (cell_in now a) ≡ mark (cell_in now b)
  same_marks a b l m e = mark_of a l ∙ ap (λ (j : Clock). due clk j now past) e ∙ sym (mark_of b m)

  regular_at : (a : ℕ) → a < length now → plain (clk a) ≡ true → Regular (clk a).period (clk a).phase (cell_in now a ∷ history past a)
  regular_at a l e = regular clk now past a e (kept a l)

  periodic : (n p a : ℕ) → on_grid n p (length (history past a)) ≡ due clk (every n p) now past
  periodic n p a = rw (history_length past a) (sym (due_plain clk (every n p) now past refl))

  recast : {s : Step} {b d : Bool} → b ≡ d → Makes s b → Makes s d
  recast e m = record { cell = m.cell; eq = m.eq; due_eq = m.due_eq ∙ e }

  row_law : (m : ℕ) (r : Row) (k : Clock) → Rule clk r k → Fits m (length now) r → Makes (cell_of rows log past now r) (due clk k now past)
  unfolding cell_of
  row_law m (input n p) k by_input w = made _ _ (cond_mark (on_grid n p (length past)) (present _) ∙ and-true _ ∙ sym (due_plain clk (every n p) now past refl))
  row_law m (constant v n p) k by_constant w = made _ _ (cond_mark (on_grid n p (length past)) (present _) ∙ and-true _ ∙ sym (due_plain clk (every n p) now past refl))
  row_law m (combine op a b) k (by_combine x) w = recast (mark_of a w.0) (combined_law op _ _ (same_marks a b w.0 w.1 x))
  row_law m (register v b a) k by_register w = made _ _ (registered_law v (cell_in now b) (history past a) ∙ mark_of b w.0)
  row_law m (faster a c g) k (by_faster x y) w =
      recast (periodic g (clk a).phase a) (faster_law _ _ _ _ (sane a w.0).positive (regular_at a w.0 x) c g w.1.from y)
  row_law m (slower a c) k (by_slower x l) w = made _ _ (slower_law _ _ _ _ (sane a w.0).positive (regular_at a w.0 x) c ∙ periodic _ _ a)
  row_law m (later a d) k (by_later x l) w = made _ _ (later_law _ _ _ _ (sane a w.0).positive (regular_at a w.0 x) d ∙ periodic _ _ a)
  row_law m (head a v s) k (by_head x y) w =
      recast (periodic (clk a).period s a) (head_law _ _ _ _ (sane a w.0).positive (regular_at a w.0 x) v s y)
  row_law m (tail a) k (by_tail x l) w = made _ _ (tail_law _ _ _ _ (sane a w.0).positive (regular_at a w.0 x) ∙ periodic _ _ a)
  row_law m (sample u a c) k (by_sample x l) w =
      recast (ap (λ (b : Bool). b && holds u (cell_in now c)) (mark_of a w.0) ∙ sym (due_direct clk (clk a) c u now past))
      (sampled_law u _ _ (same_marks a c w.0 w.1 x))
  row_law m (merge c a b) k (by_merge x y) w =
      recast (mark_of c w.0) (merged_law (cell_in now c) (cell_in now a) (cell_in now b) (branch a true w.1 x) (branch b false w.2 y))
    where
      branch : (a : ℕ) (u : Bool) → a < length now → clk a ≡ under (clk c) c u 0 → mark (cell_in now a) ≡ (mark (cell_in now c) && holds u (cell_in now c))
      branch a u l e =
          mark_of a l ∙ ap (λ (j : Clock). due clk j now past) e ∙ due_direct clk (clk c) c u now past
          ∙ ap (λ (b : Bool). b && holds u (cell_in now c)) (sym (mark_of c w.0))
  row_law m (view u a c v) k (by_view x y f) w =
      recast (rw (history_length past a, mark_of a w.0) (sym (due_under clk (clk a) c u v now past)))
      (view_law _ _ _ _ (regular_at a w.0 x) _ _ _ _ (regular_at c w.1 y) (history_length past a ∙ sym (history_length past c))
      u v w.2.from f.other f.begun)
  row_law m unrated k x w = elim x [ ]

-- the flows of a tick as far as the rows of a front
pub record Front (rows : List Row) (log : List ℕ) (clk : ℕ → Clock) (past : Ticks) (now : Tick) (front : List Row) : Type 0 where
  pub tick : Tick
  pub same : (rest : List Row) → flows_from rows log past now (front ++ rest) ≡ flows_from rows log past tick rest
  pub size : length tick ≡ length now + length front
  pub keeps : Kept clk (length tick) (tick ∷ past)

module _ (rows : List Row) (log : List ℕ) (clk : ℕ → Clock) (past : Ticks) (m : ℕ) (sane : AllSane clk m) (old : Kept clk m past) where
  -- what comes after a flow in a tick does not change its being kept
  pub kept_append : (now more : Tick) → length now ≤ m → Kept clk (length now) (now ∷ past) → Kept clk (length now) ((now ++ more) ∷ past)
  kept_append now more l k f x = (
    ap mark (get_or-append now more absent f x) ∙ (k f x).0
        ∙ sym (due_append clk now more (clk f) past (below_le f (length now) (clk f).conditions (omega arith) (sane f (omega arith)).below)),
    (k f x).1,
  )

  one_more : (now : Tick) (c : Cell) → length now < m → Kept clk (length now) (now ∷ past) → mark c ≡ due clk (clk (length now)) now past
      → Kept clk (suc (length now)) ((now ++ (c ∷ [])) ∷ past)
  one_more now c l k e =
      below_suc (λ (f : ℕ). Keeps clk ((now ++ (c ∷ [])) ∷ past) f) (length now) (kept_append now (c ∷ []) (omega arith) k)
      (ap mark (get_or-append_seam now c [] absent) ∙ e ∙ sym (due_append clk now (c ∷ []) (clk (length now)) past (sane (length now) l).below), old (length now) l)

  pub front_law : (w : ℕ) (front : List Row) (now : Tick) → length now + length front ≤ m → AllFit w (length now) front → Clocked clk (length now) front
      → Kept clk (length now) (now ∷ past) → Front rows log clk past now front
  unfolding flows_from
  front_law w [] now l fit ck k = record { tick = now; same = λ rest. refl; size = omega arith; keeps = k }
  front_law w (r ∷ rs) now l fit ck k =
      let mk : Makes (cell_of rows log past now r) (due clk (clk (length now)) now past) =
      row_law rows log clk past now (λ f x. sane f (omega arith)) k w r (clk (length now)) (rule_of_lem clk (length now) r (clk (length now)) ck.0) fit.0 in
      let now' : Tick = now ++ (mk.cell ∷ []) in
      let e : length now' ≡ suc (length now) = length-append now (mk.cell ∷ []) ∙ omega arith in
      let rest : Front rows log clk past now' rs =
      front_law w rs now' (omega arith) (subst (λ (i : ℕ). AllFit w i rs) (sym e) fit.1) (subst (λ (i : ℕ). Clocked clk i rs) (sym e) ck.1)
      (subst (λ (i : ℕ). Kept clk i (now' ∷ past)) (sym e) (one_more now mk.cell (omega arith) k mk.due_eq)) in
      record {
        tick = rest.tick;
        same = λ more. rw (mk.eq, flows_from) (rest.same more);
        size = omega (arith, rest.size);
        keeps = rest.keeps;
      }

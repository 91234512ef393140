-- What marks, values and clock words show of the cells and clocks behind them. Assumes nothing.
use mathlib.Core.Path.{◌≡◌, refl, sym, ◌∙◌, ap, subst}
use mathlib.Core.Logic.{◌↔◌}
use Prim.Native.Nat.{ℕ, zero, suc, ◌+◌, ◌*◌, ◌-◌, ◌≤◌, ◌<◌}
use native.Mathlib.Nat.{mul-le-mul_right}
use native.Mathlib.Decide.{dec_lt}
use native.Mathlib.Omega.{arith}
use mathlib.Core.Bool.{Bool, true, false, ◌&&◌, not, beq, false≢true}
use mathlib.Core.List.{List, [], ◌∷◌, ◌++◌, map}
use lib.ListN.{length, get_or, get_or-append}
use lib.Dec.{eqb}
use borrow.Author.Tests.{eqb-true, eq-eqb, ne_eqb}
use Rattle.table.specs.Bits.{bit}
use Rattle.table.proofs.Tests.{and_left, and_right, and_both, Tried, passed, failed, try}
use Rattle.checker.specs.Clocks.{Condition, Clock}
use Rattle.checker.specs.Rules.{clock_at, Every}
use Rattle.checker.specs.Answers.{condition_word, clocks_words}
use Rattle.checker.proofs.CheckLaws.{BegunBy, Sane}
use Rattle.checker.proofs.WordLaws.{word_at_lem, condition_at, view_at}
use Rattle.semantics.specs.Cells.{Cell, absent, present, mark, value, cell_on, on_grid}
use Rattle.semantics.specs.Runs.{Tick, Ticks, cell_in, history, cells, Regular as Wide}
use Rattle.semantics.specs.Answers.{mark_byte}
use Rattle.semantics.proofs.Traces.{history_length, cells_length, cells_at, tick_back, tick_now}
use Rattle.calendar.specs.Calendar.{clock_word, read_at, reading_tick, cell_at, TrueAt, FalseAt, ConditionAt, Due}
use Rattle.calendar.proofs.Grid.{On, on_of, of_on}
use Rattle.calendar.proofs.Dues.{holds, cell_then, read_from, all_hold, due, due_is}
use Rattle.calendar.proofs.Views.{read_by}
use Rattle.calendar.proofs.Keeping.{Keeps}

-- a cell of the trace is its flow's of that tick
trace_on : (m f : ℕ) → f < m → (past : Ticks) → Wide m past → (u : ℕ) → u < length past → get_or (cells past) (u * m + f) absent ≡ cell_on (history past f) u
trace_on m f l past w u x =
    let i : ℕ = length past - suc u in
    cells_at m f l past w u i (omega arith) ∙ sym (tick_back (history past f) u i (omega (arith, history_length past f)))

-- tick t of the ticks: its cells and those before it stand in the trace, and each flow keeps its clock there
pub record AtTick (m : ℕ) (past : Ticks) (t : ℕ) : Type 0 where
  pub now : Tick
  pub before : Ticks
  pub size : length before ≡ t
  pub cell : (u f : ℕ) → u ≤ t → f < m → get_or (cells past) (u * m + f) absent ≡ cell_then now before f u
  pub keeps : (clk : ℕ → Clock) (f : ℕ) → Keeps clk past f → mark (cell_in now f) ≡ due clk (clk f) now before

pub at_tick : (m : ℕ) (past : Ticks) (t : ℕ) → Wide m past → t < length past → AtTick m past t
unfolding cells history
at_tick m [] t w l = absurd (omega arith)
at_tick m (now ∷ past) t w l = go (at_tick m past t w.1) (dec_lt t (length past))
  where
    earlier : (u f : ℕ) → u < length past → f < m → u * m + f < length (cells past)
    earlier u f x y = omega (arith, mul-le-mul_right m x, cells_length m past w.1)

    go : (t < length past → AtTick m past t) → Dec (t < length past) → AtTick m (now ∷ past) t
    go h (yes y) =
        let r : AtTick m past t = h y in
        record {
          now = r.now;
          before = r.before;
          size = r.size;
          cell = λ u f x z. get_or-append (cells past) now absent (u * m + f) (earlier u f (omega arith) z) ∙ r.cell u f x z;
          keeps = λ clk f x. r.keeps clk f x.1;
        }
    go h (no y) =
        record {
          now = now;
          before = past;
          size = omega arith;
          cell = λ u f x z. trace_on m f z (now ∷ past) w u (omega arith);
          keeps = λ clk f x. x.0;
        }

-- a function of the cells, written from the first place on
pub written : (g : Cell → ℕ) (cs : List Cell) (old : List ℕ) (i : ℕ) → i < length cs → get_or (map g cs ++ old) i 0 ≡ g (get_or cs i absent)
written g [] old i l = absurd (omega arith)
written g (c ∷ cs) old zero l = refl
written g (c ∷ cs) old (suc i) l = written g cs old i (omega arith)

-- marks and values that show tick now at place t, and the ticks before at theirs
pub record Shows (m : ℕ) (marks values : List ℕ) (t : ℕ) (now : Tick) (before : Ticks) : Type 0 where
  pub mark_at_lem : (u f : ℕ) → u ≤ t → f < m → cell_at m marks u f ≡ mark_byte (cell_then now before f u)
  pub value_at_lem : (u f : ℕ) → u ≤ t → f < m → cell_at m values u f ≡ value (cell_then now before f u)

pub byte_one : (b : Bool) → (bit b ≡ 1) ↔ (b ≡ true)
byte_one true = (λ e. refl, λ e. refl)
byte_one false = (λ e. absurd (omega arith), λ e. absurd (false≢true e))

-- a truth is what its cell says
true_holds : (c : Cell) → (holds true c ≡ true) ↔ ((mark_byte c ≡ 1) × (value c ≡ 0 → ⊥))
true_holds absent = (λ e. absurd (false≢true e), λ t. absurd (let z : ◌≡◌ {A = ℕ} 0 1 = t.0 in omega arith))
true_holds (present v) = (
  λ e. (refl, λ (z : v ≡ 0). false≢true (subst (λ (b : Bool). beq (not b) true ≡ true) (eq-eqb v 0 z) e)),
  λ t. rw (ne_eqb v 0 t.1),
)

false_holds : (c : Cell) → (holds false c ≡ true) ↔ ((mark_byte c ≡ 1) × (value c ≡ 0))
false_holds absent = (λ e. absurd (false≢true e), λ t. absurd (let z : ◌≡◌ {A = ℕ} 0 1 = t.0 in omega arith))
false_holds (present v) = (λ e. (refl, go (try (eqb v 0)) e), λ t. rw (eq-eqb v 0 t.1))
  where
    go : Tried (eqb v 0) → beq (not (eqb v 0)) false ≡ true → v ≡ 0
    go (passed z) e = eqb-true v 0 z
    go (failed z) e = absurd (false≢true (rw z at e))

-- a condition by its number, and what every condition has
abbrev blank : Condition
blank = record { flow = 0; truth = true; view = 0 }

abbrev nth : List Condition → ℕ → Condition
nth cs i = get_or cs i blank

every_at : (P : Condition → Type 0) (cs : List Condition) (i : ℕ) → i < length cs → Every P cs → P (nth cs i)
every_at P [] i l h = absurd (omega arith)
every_at P (c ∷ cs) zero l h = h.0
every_at P (c ∷ cs) (suc i) l h = every_at P cs i (omega arith) h.1

module _ (m : ℕ) (marks values : List ℕ) (t : ℕ) (now : Tick) (before : Ticks) (size : length before ≡ t) (s : Shows m marks values t now before) where
  -- a condition's word holds, at a tick so far, as the condition does
  condition_shown : (tick : ℕ → ℕ) (f : ℕ) (u : Bool) → f < m → tick f ≤ t → (holds u (cell_then now before f (tick f)) ≡ true) ↔ ConditionAt m marks values tick (2 * f + bit u)
  condition_shown tick f true l x = (
    λ e. let h = (true_holds (cell_then now before f (tick f))).0 e in
        record {
          true_word = λ g y. let p : f ≡ g = omega arith in
              subst (λ (c : ℕ). TrueAt m marks values (tick c) c) p (rw (s.mark_at_lem (tick f) f x l, s.value_at_lem (tick f) f x l) h);
          false_word = λ g y. absurd (omega arith);
        },
    λ c. (true_holds (cell_then now before f (tick f))).1 (rw (s.mark_at_lem (tick f) f x l, s.value_at_lem (tick f) f x l) at (c.true_word f refl)),
  )
  condition_shown tick f false l x = (
    λ e. let h = (false_holds (cell_then now before f (tick f))).0 e in
        record {
          true_word = λ g y. absurd (omega arith);
          false_word = λ g y. let p : f ≡ g = omega arith in
              subst (λ (c : ℕ). FalseAt m marks values (tick c) c) p (rw (s.mark_at_lem (tick f) f x l, s.value_at_lem (tick f) f x l) h);
        },
    λ c. (false_holds (cell_then now before f (tick f))).1 (rw (s.mark_at_lem (tick f) f x l, s.value_at_lem (tick f) f x l) at (c.false_word f (omega arith))),
  )

  module _ (clk : ℕ → Clock) (p : ℕ) where
    -- so it does at the tick at which it is read, which is not past t
    read_shown : p ≤ t → (tick : ℕ → ℕ) (c : Condition) → c.flow < m → BegunBy clk p c → tick c.flow ≡ read_at c.view p (clk c.flow).phase t
        → (holds c.truth (read_from clk p now before c) ≡ true) ↔ ConditionAt m marks values tick (condition_word c)
    read_shown by tick c l b e =
        let x : tick c.flow ≤ t = rw e (read_by c.view p (clk c.flow).phase t by b) in
        rw (size, ← e) (condition_shown tick c.flow c.truth l x)

    -- all of them together
    abbrev EachHolds : List Condition → Type 0
    EachHolds cs = (i : ℕ) → i < length cs → holds (nth cs i).truth (read_from clk p now before (nth cs i)) ≡ true

    one_more : (c : Condition) (cs : List Condition) → (all_hold clk p now before cs ≡ true) ↔ EachHolds cs → (all_hold clk p now before (c ∷ cs) ≡ true) ↔ EachHolds (c ∷ cs)
    one_more c cs rest = (to, λ h. and_both (h 0 (omega arith)) (rest.1 (λ i l. h (suc i) (omega arith))))
      where
        to : all_hold clk p now before (c ∷ cs) ≡ true → EachHolds (c ∷ cs)
        to e zero l = and_left (holds c.truth (read_from clk p now before c)) _ e
        to e (suc i) l = rest.0 (and_right (holds c.truth (read_from clk p now before c)) _ e) i (omega arith)

    each_holds : (cs : List Condition) → (all_hold clk p now before cs ≡ true) ↔ EachHolds cs
    each_holds [] = (λ e i l. absurd (omega arith), λ h. refl)
    each_holds (c ∷ cs) = one_more c cs (each_holds cs)

  -- a flow that keeps its clock is marked exactly when the words of its clock make it due
  pub due_shown : (ks : List Clock) (old : List ℕ) (f : ℕ) → f < m → length ks ≡ m → Sane (clock_at ks) f (clock_at ks f)
      → mark (cell_in now f) ≡ due (clock_at ks) (clock_at ks f) now before → (cell_at m marks t f ≡ 1) ↔ Due m marks values t (clocks_words ks ++ old) f
  due_shown ks old f l many sane e = (to, from)
    where
      clk : ℕ → Clock
      clk = clock_at ks

      k : Clock
      k = clock_at ks f

      out : List ℕ
      out = clocks_words ks ++ old

      grid : Bool
      grid = on_grid k.period k.phase (length before)

      lk : f < length ks
      lk = omega arith

      period_is : clock_word out f 0 ≡ k.period
      period_is = word_at_lem ks old f 0 lk (omega arith)

      phase_is : (g : ℕ) → g < m → clock_word out g 1 ≡ (clk g).phase
      phase_is g x = word_at_lem ks old g 1 (omega arith) (omega arith)

      many_is : clock_word out f 2 ≡ length k.conditions
      many_is = word_at_lem ks old f 2 lk (omega arith)

      words_are : (j : ℕ) → k.phase + j * k.period ≡ clock_word out f 1 + j * clock_word out f 0
      words_are j = rw (period_is, phase_is f l)

      word_is : (i : ℕ) → i < length k.conditions → clock_word out f (3 + i) ≡ condition_word (nth k.conditions i)
      word_is i x = condition_at ks old f i blank lk x sane.few

      read_is : (i c : ℕ) → i < length k.conditions → c < m → reading_tick out f i t c ≡ read_at (nth k.conditions i).view k.phase (clk c).phase t
      read_is i c x y = rw (view_at ks old f i blank lk x sane.few, phase_is f l, phase_is c y)

      -- condition number i
      shown : (i : ℕ) → i < length k.conditions → k.phase ≤ t
          → (holds (nth k.conditions i).truth (read_from clk k.phase now before (nth k.conditions i)) ≡ true)
          ↔ ConditionAt m marks values (reading_tick out f i t) (clock_word out f (3 + i))
      shown i x by =
          let c : Condition = nth k.conditions i in
          let low : c.flow < m = omega (arith, every_at (λ (d : Condition). d.flow < f) k.conditions i x sane.below) in
          rw (word_is i x)
          (read_shown clk k.phase by (reading_tick out f i t) c low (every_at (BegunBy clk k.phase) k.conditions i x sane.begun) (read_is i c.flow x low))

      this : cell_at m marks t f ≡ mark_byte (cell_in now f)
      this = s.mark_at_lem t f (omega arith) l ∙ ap mark_byte (tick_now (cell_in now f) (history before f) t (sym size ∙ sym (history_length before f)))

      to : cell_at m marks t f ≡ 1 → Due m marks values t out f
      to x =
          let y : (grid && all_hold clk k.phase now before k.conditions) ≡ true =
          sym (due_is clk k now before) ∙ sym e ∙ (byte_one (mark (cell_in now f))).0 (sym this ∙ x) in
          let o : On k.period k.phase (length before) = on_of _ _ _ (and_left grid _ y) in
          record {
            periods = o.whole;
            tick = sym size ∙ o.eq ∙ words_are o.whole;
            conditions = λ i z. let w : i < length k.conditions = rw many_is at z in
                (shown i w (omega (arith, o.eq))).0 ((each_holds clk k.phase k.conditions).0 (and_right grid _ y) i w);
          }

      from : Due m marks values t out f → cell_at m marks t f ≡ 1
      from x =
          let on : t ≡ k.phase + x.periods * k.period = x.tick ∙ sym (words_are x.periods) in
          let by : k.phase ≤ t = omega arith in
          this ∙ (byte_one (mark (cell_in now f))).1
          (e ∙ due_is clk k now before
          ∙ and_both (of_on record { whole = x.periods; eq = size ∙ on })
          ((each_holds clk k.phase k.conditions).1 (λ i z. (shown i z by).1 (x.conditions i (rw many_is z)))))

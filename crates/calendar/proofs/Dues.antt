-- When a clock is due at a tick, and what the operators that look at one tick alone make of it. Assumes nothing.
use mathlib.Core.Path.{◌≡◌, refl, sym, ◌∙◌, ap}
use Prim.Native.Nat.{ℕ}
use mathlib.Core.Bool.{Bool, true, false, cond, ◌&&◌, beq, true≢false, false≢true, and-true, and_assoc}
use mathlib.Core.List.{List, [], ◌∷◌, ◌++◌}
use lib.ListN.{length, get_or-append}
use Rattle.table.specs.Rows.{Op}
use Rattle.checker.specs.Rules.{Below}
use Rattle.checker.specs.Clocks.{Condition, Clock, plain, under}
use Rattle.checker.proofs.ClockLaws.{plain_empty}
use Rattle.semantics.specs.Cells.{Cell, absent, present, mark, History, cell_on, on_grid}
use Rattle.semantics.specs.Operators.{is, clashes, combined, registered, truth_of, sampled, neither, alone, merged}
use Rattle.semantics.specs.Runs.{Tick, Ticks, cell_in, history}
use Rattle.semantics.proofs.Traces.{history_length, tick_now}
use Rattle.calendar.specs.Calendar.{read_at}
use Rattle.calendar.proofs.Flows.{Makes, cond_mark}

-- a condition of truth u, read from its flow's cell
abbrev pub holds : Bool → Cell → Bool
holds u absent = false
holds u (present v) = beq (truth_of v) u

-- flow f's cell of tick u: of the tick after those past, or of an earlier one
abbrev pub cell_then : Tick → Ticks → ℕ → ℕ → Cell
cell_then now past f u = cell_on (cell_in now f ∷ history past f) u

-- the cell that a condition of a clock with phase p is read from, for the tick after those past
abbrev pub read_from : (ℕ → Clock) → ℕ → Tick → Ticks → Condition → Cell
read_from clk p now past c = cell_then now past c.flow (read_at c.view p (clk c.flow).phase (length past))

abbrev pub all_hold : (ℕ → Clock) → ℕ → Tick → Ticks → List Condition → Bool
all_hold clk p now past [] = true
all_hold clk p now past (c ∷ cs) = holds c.truth (read_from clk p now past c) && all_hold clk p now past cs

-- the tick after those past is on the clock, its conditions read from the cells of that tick and of those past
pub due : (ℕ → Clock) → Clock → Tick → Ticks → Bool
due clk k now past = on_grid k.period k.phase (length past) && all_hold clk k.phase now past k.conditions

module _ (clk : ℕ → Clock) where
  pub due_is : (k : Clock) (now : Tick) (past : Ticks)
      → due clk k now past ≡ (on_grid k.period k.phase (length past) && all_hold clk k.phase now past k.conditions)
  unfolding due
  due_is k now past = refl

  pub due_plain : (k : Clock) (now : Tick) (past : Ticks) → plain k ≡ true → due clk k now past ≡ on_grid k.period k.phase (length past)
  unfolding due
  due_plain k now past e = rw (plain_empty k e) (and-true _)

  -- one condition more
  hold_snoc : (p : ℕ) (now : Tick) (past : Ticks) (cs : List Condition) (c : Condition)
      → all_hold clk p now past (cs ++ (c ∷ [])) ≡ (all_hold clk p now past cs && holds c.truth (read_from clk p now past c))
  hold_snoc p now past [] c = and-true _
  hold_snoc p now past (d ∷ cs) c =
      rw (hold_snoc p now past cs c) (sym (and_assoc (holds d.truth (read_from clk p now past d)) (all_hold clk p now past cs) _))

  pub due_under : (k : Clock) (c : ℕ) (u : Bool) (w : ℕ) (now : Tick) (past : Ticks)
      → due clk (under k c u w) now past ≡ (due clk k now past && holds u (read_from clk k.phase now past record { flow = c; truth = u; view = w }))
  unfolding due
  due_under k c u w now past =
      ap (λ (b : Bool). on_grid k.period k.phase (length past) && b)
      (hold_snoc k.phase now past k.conditions record { flow = c; truth = u; view = w })
      ∙ sym (and_assoc (on_grid k.period k.phase (length past)) _ _)

  -- one that is sampled directly
  pub due_direct : (k : Clock) (c : ℕ) (u : Bool) (now : Tick) (past : Ticks) → due clk (under k c u 0) now past ≡ (due clk k now past && holds u (cell_in now c))
  due_direct k c u now past =
      due_under k c u 0 now past
      ∙ ap (λ (x : Cell). due clk k now past && holds u x) (tick_now (cell_in now c) (history past c) (length past) (sym (history_length past c)))

  -- the flows after its conditions do not matter to a clock
  hold_append : (p : ℕ) (now more : Tick) (past : Ticks) (cs : List Condition) → Below (length now) cs
      → all_hold clk p (now ++ more) past cs ≡ all_hold clk p now past cs
  hold_append p now more past [] b = refl
  hold_append p now more past (c ∷ cs) b = rw (get_or-append now more absent c.flow b.0, hold_append p now more past cs b.1)

  pub due_append : (now more : Tick) (k : Clock) (past : Ticks) → Below (length now) k.conditions → due clk k (now ++ more) past ≡ due clk k now past
  unfolding due
  due_append now more k past b = rw (hold_append k.phase now more past k.conditions b)

pub made : (c : Cell) (b : Bool) → mark c ≡ b → Makes (is c) b
made c b e = record { cell = c; eq = refl; due_eq = e }

pub combined_law : (op : Op) (x y : Cell) → mark x ≡ mark y → Makes (combined op x y) (mark x)
unfolding combined
combined_law op absent absent e = made absent _ refl
combined_law op absent (present y) e = absurd (false≢true e)
combined_law op (present x) absent e = absurd (true≢false e)
combined_law op (present x) (present y) e = made (present _) _ refl

pub combined_clash : (op : Op) (x y : Cell) → (mark x ≡ mark y → ⊥) → combined op x y ≡ clashes
unfolding combined
combined_clash op absent absent d = absurd (d refl)
combined_clash op absent (present y) d = refl
combined_clash op (present x) absent d = refl
combined_clash op (present x) (present y) d = absurd (d refl)

pub registered_law : (v : ℕ) (x : Cell) (h : History) → mark (registered v x h) ≡ mark x
unfolding registered
registered_law v absent h = refl
registered_law v (present b) h = refl

pub sampled_law : (u : Bool) (x c : Cell) → mark x ≡ mark c → Makes (sampled u x c) (mark x && holds u c)
unfolding sampled
sampled_law u absent absent e = made absent _ refl
sampled_law u absent (present c) e = absurd (false≢true e)
sampled_law u (present x) absent e = absurd (true≢false e)
sampled_law u (present x) (present c) e = made _ _ (cond_mark (beq (truth_of c) u) (present x) ∙ and-true _)

alone_law : (x y : Cell) → mark x ≡ true → mark y ≡ false → Makes (alone x y) true
unfolding alone
alone_law absent y p q = absurd (false≢true p)
alone_law (present x) absent p q = made (present x) _ refl
alone_law (present x) (present y) p q = absurd (true≢false q)

chosen_law : (u : Bool) (a b : Cell) → mark a ≡ beq u true → mark b ≡ beq u false → Makes (cond u (alone a b) (alone b a)) true
chosen_law true a b p q = alone_law a b p q
chosen_law false a b p q = alone_law b a q p

pub merged_law : (c a b : Cell) → mark a ≡ (mark c && holds true c) → mark b ≡ (mark c && holds false c) → Makes (merged c a b) (mark c)
unfolding merged neither
merged_law absent absent absent p q = made absent _ refl
merged_law absent absent (present y) p q = absurd (true≢false q)
merged_law absent (present x) b p q = absurd (true≢false p)
merged_law (present c) a b p q = chosen_law (truth_of c) a b p q

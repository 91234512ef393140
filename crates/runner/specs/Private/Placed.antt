-- Marks and values in which each tick stands at its own place, and the tallies. For the private functions alone.
use Rattle.std.specs.Prelude.{◌≡◌, ℕ, suc, ◌+◌, ◌-◌, ◌*◌, ◌%◌, ◌^◌, ◌<◌, ◌≤◌, Bool, cond, ◌&&◌, ◌||◌, List, [], ◌∷◌, ◌++◌, map, length, take, drop, ◌==◌, ◌≢◌, nat_le, slice_index, Ok, Err}
use Rattle.std.proofs.Math.Option.{some}
use Rattle.table.specs.declared.refusal.Refusal.{Refusal}
use Rattle.table.specs.declared.refusal.Refusal.TheVariants.{TooManyTicks, WrongLog}
use Rattle.table.specs.Answers.{Result, good, refused, named, unless, over}
use Rattle.table.specs.Rows.{Row, view}
use Rattle.table.specs.Tables.{row_at}
use Rattle.semantics.specs.Cells.{Cell, absent, value, back, first}
use Rattle.semantics.specs.Runs.{Tick, Ticks, history, TickEnd, filled, stopped, Ran, done, clashed, run, Regular}
use Rattle.semantics.specs.Answers.{mark_byte}
use Rattle.semantics.specs.Windows.{tally_size}
use Rattle.runner.specs.declared.carried.Held.{Held}
use Rattle.runner.specs.Private.Carried.{cell_at, look_for}
use Rattle.runner.specs.Long.{window_ticks}
use Rattle.runner.specs.Private.Ready.{AllCarry, Ticked, Reached, Tested, clash_at}

-- a mask that leaves of a tick its remainder by a power of 2
pub record Mask (mask : ℕ) : Type 0 where
  pub width : ℕ
  pub is : mask + 1 ≡ 2 ^ width

-- the power of 2 that the window's ticks are
abbrev pub window_width : ℕ
window_width = 17

-- the masks of a run that has room for every tick, and of one with a window
abbrev pub is_mask : ℕ → Bool
is_mask mask = (mask + 1 == 2 ^ 32) || (mask + 1 == window_ticks)

-- the place of a tick's first cell: tick t stands at t modulo room
abbrev pub first_cell : ℕ → ℕ → ℕ → ℕ
first_cell room n t = t % room * n

-- so many ticks have their places in a list of a length
pub record Fitting (room n ticks size : ℕ) : Type 0 where
  pub place : (t : ℕ) → t < ticks → first_cell room n t + n ≤ size

-- xs from place i on, and the rest as it was
abbrev pub splice : ℕ → List ℕ → List ℕ → List ℕ
splice i xs old = take i old ++ over xs (drop i old)

-- marks or values as they are filled, tick after tick
unfoldable pub placed : ℕ → ℕ → (Cell → ℕ) → List ℕ → Ticks → List ℕ
placed room n g old [] = old
placed room n g old (now ∷ past) = splice (first_cell room n (length past)) (map g now) (placed room n g old past)

-- marks and values have the cells of earlier ticks as far back as they have room
pub record Recalls (room n t : ℕ) (past : Ticks) (ms vs : List ℕ) : Type 0 where
  pub cell : (a d : ℕ) → a < n → 0 < d → d ≤ t → d ≤ room
      → cell_at (slice_index ms (first_cell room n (t - d) + a)) (slice_index vs (first_cell room n (t - d) + a)) ≡ back (history past a) (d - 1)

-- the cell of flow a at d ticks before tick t, absent where there is no such tick
abbrev pub cell_before : ℕ → ℕ → ℕ → ℕ → ℕ → List ℕ → List ℕ → Cell
cell_before room n a d t ms vs =
    cond (nat_le d t) (cell_at (slice_index ms (first_cell room n (t - d) + a)) (slice_index vs (first_cell room n (t - d) + a))) absent

-- what a row that looks back holds before tick t, by its kind and fields: a later row its operand's cell, a view its words after a look
pub record Backward (room n kind p q r t : ℕ) (ms vs : List ℕ) (h h' : Held) : Type 0 where
  pub fetched : kind ≡ 10 → cell_at h'.x h'.y ≡ cell_before room n p q t ms vs
  pub sighted : (kind ≢ 10) → h' ≡ look_for r t (cell_before room n q h.y t ms vs) h

-- Views look no further back than there is room: c begins at most so many ticks before a. And that, at every tick of a run.
pub record Near (room : ℕ) (rows : List Row) (past : Ticks) : Type 0 where
  pub lag : (f : ℕ) (u : Bool) (a c w s r : ℕ) → f < length rows → row_at rows f ≡ view u a c w → first (history past a) ≡ some s → first (history past c) ≡ some r
      → s ≤ r + room

pub record Nearby (room : ℕ) (rows : List Row) (log : List ℕ) : Type 0 where
  pub near : (t : ℕ) (past : Ticks) → t < 2 ^ 24 → run rows log t ≡ done past → Near room rows past

-- cells were written from a place on, and nothing else
pub record WroteAt (first : ℕ) (written : List Cell) (ms vs ms' vs' : List ℕ) : Type 0 where
  pub marks : ms' ≡ splice first (map mark_byte written) ms
  pub values : vs' ≡ splice first (map value written) vs

-- how a tick ends in the whole of marks and values, its first cell at a place
abbrev pub TickAt : ℕ → List Row → ℕ → Ticks → TickEnd → List ℕ → List ℕ → List ℕ → List ℕ → List Held → Ticked → Type 0
TickAt first rows t past (filled now) ms vs ms' vs' s' r =
    (r ≡ Ok tt) × WroteAt first now ms vs ms' vs' × (length now ≡ length rows) × AllCarry rows (suc t) (now ∷ past) s'
TickAt first rows t past (stopped f now) ms vs ms' vs' s' r = (r ≡ Err f) × WroteAt first now ms vs ms' vs' × (f < length rows)

-- each of k counts is below a limit; one below count_limit can grow
abbrev pub count_limit : ℕ
count_limit = 2 ^ 31

pub record Low (k limit : ℕ) (ts : List ℕ) : Type 0 where
  pub count : (f : ℕ) → f < k → slice_index ts (tally_size * f) < limit

-- the cells of k flows from a place on are tallied
pub record Counted (first k : ℕ) (ms vs ts ts' : List ℕ) : Type 0 where
  pub counts : (f : ℕ) → f < k
      → slice_index ts' (tally_size * f) ≡ cond (slice_index ms (first + f) == 0) (slice_index ts (tally_size * f)) (slice_index ts (tally_size * f) + 1)
  pub lasts : (f : ℕ) → f < k
      → slice_index ts' (tally_size * f + 1) ≡ cond (slice_index ms (first + f) == 0) (slice_index ts (tally_size * f + 1)) (slice_index vs (first + f))
  pub rest : (i : ℕ) → tally_size * k ≤ i → slice_index ts' i ≡ slice_index ts i

-- A run before tick t: its ticks so far stand at their places in marks and values, which held ms₀ and vs₀ before the first, and the rows carry
-- what they have to.
pub record Running (n room t : ℕ) (rows : List Row) (log ms₀ vs₀ : List ℕ) (s : List Held) (ms vs : List ℕ) : Type 0 where
  pub past : Ticks
  pub ticks : length past ≡ t
  pub so_far : run rows log t ≡ done past
  pub regular : Regular n past
  pub marks : ms ≡ placed room n mark_byte ms₀ past
  pub values : vs ≡ placed room n value vs₀ past
  pub marks_size : length ms ≡ length ms₀
  pub values_size : length vs ≡ length vs₀
  pub carried : AllCarry rows t past s

-- a run that clashed at flow f of a tick before another: the cells before the clash stand at their places as well
pub record ClashedAt (n room to f : ℕ) (now : Tick) (past : Ticks) (ms₀ vs₀ ms vs : List ℕ) : Type 0 where
  pub flow : f < n
  pub few : length past < to
  pub regular : Regular n past
  pub marks : ms ≡ placed room n mark_byte ms₀ (now ∷ past)
  pub values : vs ≡ placed room n value vs₀ (now ∷ past)

-- how the ticks up to one end
abbrev pub TicksEnd : ℕ → ℕ → ℕ → List Row → List ℕ → Ran → List ℕ → List ℕ → List Held → List ℕ → List ℕ → Reached → Type 0
TicksEnd n room to rows log (done past) ms₀ vs₀ s ms vs r = (r ≡ Ok tt) × Running n room to rows log ms₀ vs₀ s ms vs
TicksEnd n room to rows log (clashed t f now past) ms₀ vs₀ s ms vs r = (r ≡ Err (clash_at t f)) × ClashedAt n room to f now past ms₀ vs₀ ms vs

-- no tick of a run clashes
pub record Unclashed (rows : List Row) (log : List ℕ) : Type 0 where
  pub ends : (t : ℕ) → (past : Ticks) × (run rows log t ≡ done past)

-- the most ticks that a long run works out before it tallies them
abbrev pub stretch_ticks : ℕ
stretch_ticks = 64

-- the limits that either run tests: the most ticks, the log's length, and the cells that marks and values need
abbrev pub limits : ℕ → ℕ → ℕ → ℕ → ℕ → Refusal → ℕ → ℕ → Result (Unit {0})
limits ticks most logged inputs cells short marks values =
    unless (nat_le ticks most) TooManyTicks 0
    (unless (logged == ticks * inputs) WrongLog 0
    (unless (nat_le cells marks && nat_le cells values) short 0
    (good tt)))

-- such limits as the code gives them
abbrev pub given : Result (Unit {0}) → Tested
given (good u) = Ok u
given (refused why f) = Err (named why f)

-- The run, over rows and log alone.
use Rattle.std.specs.Prelude.{ℕ, zero, suc, ◌+◌, ◌*◌, ◌≡◌, Bool, true, false, List, [], ◌∷◌, ◌++◌, map, length, get_or, take}
use Rattle.std.specs.Bool.{beq}
use Rattle.std.proofs.Math.Option.{Option, none, some}
use Rattle.table.specs.Bits.{bit}
use Rattle.table.specs.Rows.{Row, input, constant, combine, register, faster, slower, later, head, tail, sample, merge, unrated, view, bad_register}
use Rattle.semantics.specs.Cells.{Cell, absent, mark, History}
use Rattle.semantics.specs.Operators.{Step, is, clashes, timed, combined, registered, faster_of, slower_of, later_of, tail_of, head_of, sampled, merged, viewed}

-- one tick's cells in order of flows, and the ticks so far, the latest first
abbrev pub Tick : Type 0
Tick = List Cell

abbrev pub Ticks : Type 0
Ticks = List Tick

abbrev pub cell_in : Tick → ℕ → Cell
cell_in now f = get_or now f absent

unfoldable pub history : Ticks → ℕ → History
history past f = map (λ (now : Tick). cell_in now f) past

abbrev pub is_input : Row → Bool
is_input (input n p) = true
is_input (constant v n p) = false
is_input (combine op a b) = false
is_input (register v b a) = false
is_input (faster a k g) = false
is_input (slower a k) = false
is_input (later a d) = false
is_input (head a v s) = false
is_input (tail a) = false
is_input (sample u a c) = false
is_input (merge c a b) = false
is_input unrated = false
is_input (view u a c w) = false

-- how many rows are inputs
unfoldable pub inputs : List Row → ℕ
inputs [] = 0
inputs (r ∷ rs) = bit (is_input r) + inputs rs

-- the log's word of tick t for the input row that is flow f
abbrev pub word : List Row → List ℕ → ℕ → ℕ → ℕ
word rows log t f = get_or log (t * inputs rows + inputs (take f rows)) 0

-- The cell of the next flow, from the cells of this tick before it and the earlier ticks. The tick is the count of those ticks,
-- the flow the count of those cells. A table that is run has no unrated row.
unfoldable pub cell_of : List Row → List ℕ → Ticks → Tick → Row → Step
cell_of rows log past now (input n p) = is (timed n p (length past) (word rows log (length past) (length now)))
cell_of rows log past now (constant v n p) = is (timed n p (length past) v)
cell_of rows log past now (combine op a b) = combined op (cell_in now a) (cell_in now b)
cell_of rows log past now (register v b a) = is (registered v (cell_in now b) (history past a))
cell_of rows log past now (faster a k g) = faster_of k g (cell_in now a) (history past a)
cell_of rows log past now (slower a k) = is (slower_of k (cell_in now a) (history past a))
cell_of rows log past now (later a d) = is (later_of d (cell_in now a) (history past a))
cell_of rows log past now (head a v s) = head_of v s (cell_in now a) (history past a)
cell_of rows log past now (tail a) = is (tail_of (cell_in now a) (history past a))
cell_of rows log past now (sample u a c) = sampled u (cell_in now a) (cell_in now c)
cell_of rows log past now (merge c a b) = merged (cell_in now c) (cell_in now a) (cell_in now b)
cell_of rows log past now unrated = is absent
cell_of rows log past now (view u a c w) = viewed u w (cell_in now a) (history past a) (cell_in now c) (history past c)

-- a tick worked out: all of it, or up to a clash that names a flow
pub data TickEnd : Type 0 where
  filled : Tick → TickEnd
  stopped : (flow : ℕ) → Tick → TickEnd

-- the flows in ascending order; now has the cells before
abbrev pub on_step : Step → Tick → (Cell → TickEnd) → TickEnd
on_step (is c) now go = go c
on_step clashes now go = stopped (length now) now

unfoldable pub flows_from : List Row → List ℕ → Ticks → Tick → List Row → TickEnd
flows_from rows log past now [] = filled now
flows_from rows log past now (r ∷ rs) = on_step (cell_of rows log past now r) now λ c. flows_from rows log past (now ++ (c ∷ [])) rs

-- after all flows: a register's source and beat are both present or both absent, lowest register first
abbrev pub source_meets : Tick → ℕ → ℕ → Bool
source_meets now b a = beq (mark (cell_in now a)) (mark (cell_in now b))

abbrev pub sourced_tick : Tick → Option ℕ → TickEnd
sourced_tick now none = filled now
sourced_tick now (some f) = stopped f now

abbrev pub on_flows : List Row → TickEnd → TickEnd
on_flows rows (filled now) = sourced_tick now (bad_register (source_meets now) 0 rows)
on_flows rows (stopped f now) = stopped f now

unfoldable pub tick_of : List Row → List ℕ → Ticks → TickEnd
tick_of rows log past = on_flows rows (flows_from rows log past [] rows)

-- The run: all ticks worked out, or a clash at a tick and a flow, with the cells of that tick worked out by then.
pub data Ran : Type 0 where
  done : Ticks → Ran
  clashed : (tick flow : ℕ) → Tick → Ticks → Ran

abbrev pub on_tick : ℕ → Ticks → TickEnd → Ran
on_tick t past (filled now) = done (now ∷ past)
on_tick t past (stopped f now) = clashed t f now past

abbrev pub on_run : Ran → (Ticks → Ran) → Ran
on_run (done past) go = go past
on_run (clashed t f now past) go = clashed t f now past

unfoldable pub run : List Row → List ℕ → ℕ → Ran
run rows log zero = done []
run rows log (suc t) = on_run (run rows log t) λ past. on_tick t past (tick_of rows log past)

-- the trace: the cells worked out, tick after tick
unfoldable pub cells : Ticks → List Cell
cells [] = []
cells (now ∷ past) = cells past ++ now

abbrev pub trace : Ran → List Cell
trace (done past) = cells past
trace (clashed t f now past) = cells past ++ now

-- every tick so far has n cells
abbrev pub Regular : ℕ → Ticks → Type 0
Regular n [] = Unit {0}
Regular n (now ∷ past) = (length now ≡ n) × Regular n past

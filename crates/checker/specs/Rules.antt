-- The clock of each row, or why it has none.
use Rattle.std.specs.Prelude.{◌≡◌, ℕ, ◌+◌, ◌*◌, ◌%◌, ◌<◌, ◌≤◌, Bool, true, false, ◌&&◌, List, [], ◌∷◌, ◌++◌, length, get_or, eqb, leb}
use Rattle.std.proofs.Math.Option.{Option, none, some}
use Rattle.table.specs.declared.refusal.Refusal.TheVariants.{UnknownKind, ClocksDiffer, BeyondLimits, NotPlain, BadView}
use Rattle.table.specs.Answers.{Result, good, refused, unless, then}
use Rattle.table.specs.Rows.{Row, input, constant, combine, register, faster, slower, later, head, tail, sample, merge, unrated, view, bad_register, max_flows, max_field}
use Rattle.checker.specs.Clocks.{Condition, Clock, every, plain, same_clock, under}

-- the limits of what a rule derives
abbrev pub max_derived : ℕ
max_derived = 65535

abbrev pub max_conditions : ℕ
max_conditions = 4

abbrev pub within_limits : Clock → Bool
within_limits k =
    leb k.period max_derived && (leb k.phase max_derived && leb (length k.conditions) max_conditions)

abbrev pub limited : ℕ → Clock → Result Clock
limited f k = unless (within_limits k) BeyondLimits f (good k)

-- A view period fits where it is a multiple of both periods, and c's phase is at most a's.
abbrev pub multiple : ℕ → ℕ → Bool
multiple n w = eqb (w % n) 0

abbrev pub view_fits : ℕ → Clock → Clock → Bool
view_fits w a c = multiple a.period w && (multiple c.period w && leb c.phase a.phase)

-- The clock of flow f's row, from the clocks of the flows before it.
unfoldable pub clock_of : (ℕ → Clock) → ℕ → Row → Result Clock
clock_of clk f (input n p) = good (every n p)
clock_of clk f (constant v n p) = good (every n p)
clock_of clk f (combine op a b) = unless (same_clock (clk a) (clk b)) ClocksDiffer f (good (clk a))
clock_of clk f (register v b a) = good (clk b)
clock_of clk f (faster a k g) =
    unless (plain (clk a)) NotPlain f
    (unless (eqb (clk a).period (k * g)) ClocksDiffer f (good (every g (clk a).phase)))
clock_of clk f (slower a k) = unless (plain (clk a)) NotPlain f (limited f (every (k * (clk a).period) (clk a).phase))
clock_of clk f (later a d) = unless (plain (clk a)) NotPlain f (limited f (every (clk a).period ((clk a).phase + d)))
clock_of clk f (head a v s) =
    unless (plain (clk a)) NotPlain f
    (unless (eqb (clk a).phase (s + (clk a).period)) ClocksDiffer f (good (every (clk a).period s)))
clock_of clk f (tail a) =
    unless (plain (clk a)) NotPlain f (limited f (every (clk a).period ((clk a).phase + (clk a).period)))
clock_of clk f (sample u a c) = unless (same_clock (clk a) (clk c)) ClocksDiffer f (limited f (under (clk a) c u 0))
clock_of clk f (merge c a b) =
    unless (same_clock (clk a) (under (clk c) c true 0) && same_clock (clk b) (under (clk c) c false 0)) ClocksDiffer f
    (good (clk c))
clock_of clk f unrated = refused UnknownKind f
clock_of clk f (view u a c w) =
    unless (plain (clk a) && plain (clk c)) NotPlain f
    (unless (view_fits w (clk a) (clk c)) BadView f (good (under (clk a) c u w)))

abbrev pub clock_at : List Clock → ℕ → Clock
clock_at ks f = get_or ks f (every 1 0)

-- the rows one after the other; ks are the clocks of those before
unfoldable pub clocks_from : List Clock → List Row → Result (List Clock)
clocks_from ks [] = good ks
clocks_from ks (r ∷ rs) = then (clock_of (clock_at ks) (length ks) r) λ k. clocks_from (ks ++ (k ∷ [])) rs

-- once every row has a clock, a register's source must have its beat's: the lowest register that differs is named
abbrev pub sourced : List Clock → Option ℕ → Result (List Clock)
sourced ks none = good ks
sourced ks (some f) = refused ClocksDiffer f

abbrev pub source_fits : List Clock → ℕ → ℕ → Bool
source_fits ks b a = same_clock (clock_at ks a) (clock_at ks b)

-- the clocks of a table's rows
unfoldable pub clocks_of : List Row → Result (List Clock)
clocks_of rows = then (clocks_from [] rows) λ ks. sourced ks (bad_register (source_fits ks) 0 rows)

-- What is known of the clocks of an accepted table, for the crates above (proofs/Bounds).
-- a property of every condition; and that each is on a flow below f
abbrev pub Every : (Condition → Type 0) → List Condition → Type 0
Every P [] = Unit {0}
Every P (c ∷ cs) = P c × Every P cs

abbrev pub Below : ℕ → List Condition → Type 0
Below f cs = Every (λ (c : Condition). c.flow < f) cs

-- Of a clock's conditions only the first can be viewed: a view asks for clocks that have none.
abbrev pub Direct : Condition → Type 0
Direct c = c.view ≡ 0

abbrev pub FirstViewed : List Condition → Type 0
FirstViewed [] = Unit {0}
FirstViewed (c ∷ cs) = (c.view ≤ max_field) × Every Direct cs

-- a clock within the limits, with conditions on flows of a table
abbrev pub Within : Clock → Type 0
Within k = (within_limits k ≡ true) × Below max_flows k.conditions × FirstViewed k.conditions

-- the same of each clock
abbrev pub AllWithin : List Clock → Type 0
AllWithin ks = (f : ℕ) → f < length ks → Within (clock_at ks f)

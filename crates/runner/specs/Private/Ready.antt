-- What the carried words say of the ticks so far, and what a tick's code leaves. For the private functions alone.
use Rattle.std.specs.Prelude.{◌≡◌, ℕ, zero, suc, ◌+◌, ◌-◌, ◌*◌, ◌%◌, ◌<◌, ◌≤◌, Bool, true, false, cond, ◌||◌, ◌⊎◌}
use Rattle.std.specs.Prelude.{List, [], ◌∷◌, ◌++◌, map, length, take, ◌==◌, ◌≢◌, nat_le, slice_index, Result, Ok, Err}
use Rattle.std.proofs.Math.Option.{Option, none, some}
use Rattle.table.specs.Answers.{good, over}
use Rattle.table.specs.Rows.{Row, input, constant, combine, register, faster, slower, later, head, tail, sample, merge, unrated, view, kind_count, first_view, row_size, max_flows, on_register}
use Rattle.table.specs.Plain.{table_of, rows_in as accepted}
use Rattle.table.specs.Tables.{row_at}
use Rattle.checker.specs.Clocks.{Clock}
use Rattle.checker.specs.Rules.{clocks_of}
use Rattle.table.specs.declared.refusal.Refused.{Refused}
use Rattle.runner.specs.declared.Clashed.{Clashed}
use Rattle.runner.specs.declared.carried.Held.{Held}
use Rattle.semantics.specs.Cells.{Cell, absent, present, value, History, back, cell_on, count, latest, first, on_grid}
use Rattle.semantics.specs.Operators.{value_or}
use Rattle.semantics.specs.Runs.{Tick, Ticks, history, inputs, TickEnd, filled, stopped}
use Rattle.semantics.specs.Answers.{mark_byte}
use Rattle.runner.specs.Private.Carried.{held_at, cell_at, status}

-- the rows of a table in plain form
unfoldable pub rows_in : ℕ → List ℕ → List Row
rows_in m words = accepted (table_of m words)

pub record Plain (m : ℕ) (words : List ℕ) : Type 0 where
  pub rows : table_of m words ≡ good (rows_in m words)
  pub few : m ≤ max_flows
  pub size : length words ≡ row_size * m

-- the check accepts it
unfoldable pub Clocked : ℕ → List ℕ → Type 0
Clocked m words = (ks : List Clock) × (clocks_of (rows_in m words) ≡ good ks)

-- x is the next tick, from t on, at phase p plus whole periods n
pub record Due (n p t x : ℕ) : Type 0 where
  pub from : t ≤ x
  pub on : on_grid n p x ≡ true
  pub off : (s : ℕ) → t ≤ s → s < x → on_grid n p s ≡ false

-- A faster row's words after a presence d ticks before the latest tick, of which c copies are past.
pub record Copying (k g : ℕ) (h : History) (w : Held) : Type 0 where
  pub tick : ℕ
  pub d : ℕ
  pub c : ℕ
  pub at : tick + suc d ≡ length h
  pub last : latest h ≡ some record { tick = tick; value = w.x }
  pub there : back h d ≡ present w.x
  pub quiet : (j : ℕ) → j < d + k * g → (j ≢ d) → back h j ≡ absent
  pub due : w.z ≡ tick + k * g
  pub next : w.y ≡ tick + suc c * g
  pub few : c < k
  pub passed : c * g ≤ d
  pub ahead : (suc d ≤ suc c * g) ⊎ (suc c ≡ k)

pub data Copies (k g : ℕ) (h : History) (w : Held) : Type 0 where
  unseen : ((j : ℕ) → back h j ≡ absent) → latest h ≡ none → w.z ≡ 0 → Copies k g h w
  copying : Copying k g h w → Copies k g h w

-- A head row's word.
pub data Heads (s : ℕ) (h : History) (x : ℕ) : Type 0 where
  never : count h ≡ 0 → x ≡ 0 → Heads s h x
  once : (e v : ℕ) → count h ≡ 1 → latest h ≡ some record { tick = e; value = v } → s < e → e < length h → x ≡ e + (e - s) → Heads s h x
  often : 2 ≤ count h → x ≡ 1 → Heads s h x

-- A view's words, from the histories of a and c.
pub data Views (w : ℕ) (ha hc : History) (h : Held) : Type 0 where
  waiting : first ha ≡ none → first hc ≡ none → h.x ≡ 0 → h.z ≡ 0 → Views w ha hc h
  ready : (r : ℕ) → first ha ≡ none → first hc ≡ some r → h.x ≡ 0 → h.y ≡ r → 0 < h.z → h.z ≡ status (cell_on hc r) → Views w ha hc h
  seeing : (s r j : ℕ) → first ha ≡ some s → first hc ≡ some r → r + h.y ≡ s → h.x ≡ s + w * suc j → s + w * j ≤ length ha → length ha ≤ h.x
      → r + w * j < length hc → h.z ≡ status (cell_on hc (r + w * j)) → Views w ha hc h

-- where c is looked at anew at tick t, it began with a
abbrev pub Looked : ℕ → Held → Type 0
Looked t h = 0 < h.x → t ≡ h.x → h.y ≡ 0

-- what row f's words say before tick t
unfoldable pub Carries : List Row → ℕ → Row → ℕ → (ℕ → History) → Held → Type 0
Carries rows f (input n p) t hist w = Due n p t w.x × (w.y ≡ inputs (take f rows))
Carries rows f (constant v n p) t hist w = Due n p t w.x
Carries rows f (combine op a b) t hist w = Unit {0}
Carries rows f (register v b a) t hist w = w.x ≡ value_or v (latest (hist a))
Carries rows f (faster a k g) t hist w = Copies k g (hist a) w
Carries rows f (slower a k) t hist w = ((count (hist a) + w.x) % k ≡ 0) × (w.x < k)
Carries rows f (later a d) t hist w = Unit {0}
Carries rows f (head a v s) t hist w = Heads s (hist a) w.x
Carries rows f (tail a) t hist w = (w.x == 0) ≡ (count (hist a) == 0)
Carries rows f (sample u a c) t hist w = Unit {0}
Carries rows f (merge c a b) t hist w = Unit {0}
Carries rows f unrated t hist w = Unit {0}
Carries rows f (view u a c v) t hist w = Views v (hist a) (hist c) w

-- what was collected for a row that looks back: a later row or a view
pub record Collected (row : Row) (hist : ℕ → History) (w : Held) : Type 0 where
  pub of_later : (a d : ℕ) → row ≡ later a d → 0 < d → cell_at w.x w.y ≡ back (hist a) (d - 1)
  pub of_view : (u : Bool) (a c v : ℕ) → row ≡ view u a c v → Looked (length (hist a)) w

-- a register's word follows its source after all flows of a tick, any other row's words with the row
unfoldable pub Follows : List Row → ℕ → Row → ℕ → Tick → Ticks → Held → Type 0
Follows rows f row t now past w =
    cond (on_register (λ b a. false) row) (Carries rows f row (suc t) (history (now ∷ past)) w) (Carries rows f row t (history past) w)

-- the same of every row
unfoldable pub AllCarry : List Row → ℕ → Ticks → List Held → Type 0
AllCarry rows t past s = (f : ℕ) → f < length rows → Carries rows f (row_at rows f) t (history past) (held_at s f)

unfoldable pub AllFollow : List Row → ℕ → Tick → Ticks → List Held → Type 0
AllFollow rows t now past s = (f : ℕ) → f < length rows → Follows rows f (row_at rows f) t now past (held_at s f)

-- the words are ready for tick t, whose first word stands at a place in the log
pub record Ready (rows : List Row) (past : Ticks) (t at : ℕ) (s : List Held) : Type 0 where
  pub ticks : length past ≡ t
  pub place : at ≡ t * inputs rows
  pub carried : AllCarry rows t past s
  pub collected : (f : ℕ) → f < length rows → Collected (row_at rows f) (history past) (held_at s f)

-- cells were written from the first place on
pub record Wrote (written : List Cell) (ms vs ms' vs' : List ℕ) : Type 0 where
  pub marks : ms' ≡ over (map mark_byte written) ms
  pub values : vs' ≡ over (map value written) vs

-- what a tick comes to: all of it, or a clash that names a flow; and so ticks, and a test of limits
abbrev pub Ticked : Type 0
Ticked = Result (Unit {0}) ℕ

abbrev pub Reached : Type 0
Reached = Result (Unit {0}) Clashed

abbrev pub Tested : Type 0
Tested = Result (Unit {0}) Refused

abbrev pub clash_at : ℕ → ℕ → Clashed
clash_at t f = record { tick = t; flow = f }

-- how the flows of a tick end
abbrev pub FlowsEnd : List Row → ℕ → Ticks → TickEnd → List ℕ → List ℕ → List ℕ → List ℕ → List Held → Ticked → Type 0
FlowsEnd rows t past (filled now) ms vs ms' vs' s' r =
    (r ≡ Ok tt) × Wrote now ms vs ms' vs' × (length now ≡ length rows) × AllFollow rows t now past s'
FlowsEnd rows t past (stopped f now) ms vs ms' vs' s' r = (r ≡ Err f) × Wrote now ms vs ms' vs' × (f < length rows)

-- how the registers' test ends
abbrev pub LatchEnd : List Row → ℕ → Ticks → Tick → Option ℕ → List Held → Ticked → Type 0
LatchEnd rows t past now none s' r = (r ≡ Ok tt) × AllCarry rows (suc t) (now ∷ past) s'
LatchEnd rows t past now (some f) s' r = (r ≡ Err f) × (f < length rows)

-- how a tick ends
abbrev pub TickDone : List Row → ℕ → Ticks → TickEnd → List ℕ → List ℕ → List ℕ → List ℕ → List Held → Ticked → Type 0
TickDone rows t past (filled now) ms vs ms' vs' s' r =
    (r ≡ Ok tt) × Wrote now ms vs ms' vs' × (length now ≡ length rows) × AllCarry rows (suc t) (now ∷ past) s'
TickDone rows t past (stopped f now) ms vs ms' vs' s' r = (r ≡ Err f) × Wrote now ms vs ms' vs' × (f < length rows)

-- the numbers of the rows below n whose kinds pass a test, in ascending order
unfoldable pub numbers : (ℕ → Bool) → ℕ → List ℕ → List ℕ
numbers test zero words = []
numbers test (suc n) words = numbers test n words ++ cond (test (slice_index words (row_size * n))) (n ∷ []) []

-- a kind, or one from another on; so registers, and the rows that look back, later rows and views
abbrev pub one_of : ℕ → ℕ → ℕ → Bool
one_of kind from k = k == kind || nat_le from k

abbrev pub is_register : ℕ → Bool
is_register = one_of 7 kind_count

abbrev pub looks_back : ℕ → Bool
looks_back = one_of 10 first_view

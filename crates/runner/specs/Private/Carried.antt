-- The words that a row carries from tick to tick, and what the code's leaves make of them. For the private functions alone: the public
-- contract says nothing of them.
use Rattle.std.specs.Prelude.{◌≡◌, ℕ, ◌+◌, ◌-◌, ◌*◌, Bool, true, false, cond, List, ◌==◌, nat_le, nat_lt, slice_index, slice_index_or}
use Rattle.table.specs.Rows.{Row, Op, input, constant, combine, register, faster, slower, later, head, tail, sample, merge, unrated, view}
use Rattle.table.specs.Rows.{decode}
use Rattle.runner.specs.declared.operators.Outcome.{Outcome}
use Rattle.runner.specs.declared.operators.Outcome.TheVariants.{Absent, Present, Clash}
use Rattle.runner.specs.declared.carried.Held.{Held}
use Rattle.table.specs.Bits.{bit}
use Rattle.semantics.specs.Cells.{Cell, absent, present, mark}
use Rattle.semantics.specs.Operators.{Step, is, clashes, combined, sampled, merged, truth_of}

-- a cell from its mark and its value
abbrev pub cell_at : ℕ → ℕ → Cell
cell_at m v = cond (m == 0) absent (present v)

-- the mark of a clash, which no cell has
abbrev pub clash_mark : ℕ
clash_mark = 2

-- a step as an outcome, and the mark and the value of an outcome
abbrev pub outcome_of : Step → Outcome
outcome_of (is absent) = Absent
outcome_of (is (present v)) = Present v
outcome_of clashes = Clash

abbrev pub mark_of : Outcome → ℕ
mark_of Absent = 0
mark_of (Present v) = 1
mark_of Clash = clash_mark

abbrev pub value_of : Outcome → ℕ
value_of Absent = 0
value_of (Present v) = v
value_of Clash = 0

-- the cells of a tick's flows below f
abbrev pub cells_in : List ℕ → List ℕ → ℕ → ℕ → Cell
cells_in ms vs f a = cond (nat_lt a f) (cell_at (slice_index ms a) (slice_index vs a)) absent

-- a kind of row that combines two flows by an operator
abbrev pub Combines : ℕ → Op → Type 0
Combines k op = (a b z : ℕ) → decode k a b z ≡ combine op a b

-- what a row carries
abbrev pub nothing : Held
nothing = record { x = 0; y = 0; z = 0; spare = 0 }

abbrev pub held_at : List Held → ℕ → Held
held_at s f = slice_index_or s f nothing

-- Input, constant: x is the next tick at which it is present; of an input, y is its number among the inputs.
abbrev pub timed_step : ℕ → ℕ → Held → Step
timed_step t v h = cond (t == h.x) (is (present v)) (is absent)

abbrev pub timed_next : ℕ → ℕ → Held → Held
timed_next t n h = cond (t == h.x) (record h { x = t + n }) h

-- Register: x is the value of the source's latest presence, or the initial value.
abbrev pub register_step : Cell → Held → Step
register_step absent h = is absent
register_step (present b) h = is (present h.x)

-- Faster: x is the latest value, y the next copy's tick, z the tick at which the next presence is due, 0 before the first.
abbrev pub faster_step : ℕ → Cell → Held → Step
faster_step t absent h = cond (t == h.y) (cond (nat_lt h.y h.z) (is (present h.x)) (is absent)) (is absent)
faster_step t (present v) h = cond (h.z == 0) (is (present v)) (cond (t == h.z) (is (present v)) clashes)

abbrev pub begun : ℕ → ℕ → ℕ → ℕ → Held → Held
begun t v k g h = record h { x = v; y = t + g; z = t + k * g }

abbrev pub faster_next : ℕ → Cell → ℕ → ℕ → Held → Held
faster_next t absent k g h = cond (t == h.y) (cond (nat_lt h.y h.z) (record h { y = t + g }) h) h
faster_next t (present v) k g h = cond (h.z == 0) (begun t v k g h) (cond (t == h.z) (begun t v k g h) h)

-- Slower: x is how many presences are still to be left out.
abbrev pub slower_step : Cell → Held → Step
slower_step absent h = is absent
slower_step (present v) h = cond (h.x == 0) (is (present v)) (is absent)

abbrev pub slower_next : Cell → ℕ → Held → Held
slower_next absent k h = h
slower_next (present v) k h = cond (h.x == 0) (record h { x = k - 1 }) (record h { x = h.x - 1 })

-- Later: x and y are the mark and the value of the cell d ticks before.
abbrev pub later_step : Cell → ℕ → Held → Step
later_step a d h = cond (d == 0) (is a) (is (cell_at h.x h.y))

-- Head: x is 0 before the operand's first presence, then the tick at which the second is due, and 1 after that.
abbrev pub after_step : ℕ → ℕ → Held → Step
after_step t v h =
    cond (h.x == 0) (is (present v))
    (cond (h.x == 1) (is (present v))
    (cond (t == h.x) (is (present v)) clashes))

abbrev pub head_step : ℕ → Cell → ℕ → ℕ → Held → Step
head_step t absent v s h = cond (t == s) (is (present v)) (is absent)
head_step t (present x) v s h = cond (nat_le t s) clashes (after_step t x h)

abbrev pub after_next : ℕ → ℕ → Held → Held
after_next t s h =
    cond (h.x == 0) (record h { x = t + (t - s) })
    (cond (h.x == 1) h
    (cond (t == h.x) (record h { x = 1 }) h))

abbrev pub head_next : ℕ → Cell → ℕ → Held → Held
head_next t absent s h = h
head_next t (present x) s h = cond (nat_le t s) h (after_next t s h)

-- Tail: x is 0 before the operand's first presence, then 1.
abbrev pub tail_step : Cell → Held → Step
tail_step absent h = is absent
tail_step (present v) h = cond (h.x == 0) (is absent) (is (present v))

abbrev pub tail_next : Cell → Held → Held
tail_next absent h = h
tail_next (present v) h = cond (h.x == 0) (record h { x = 1 }) h

-- A view: what is kept of the cell that governs it, 0 absent, 1 zero, 2 not zero.
abbrev pub status : Cell → ℕ
status absent = 0
status (present v) = 1 + bit (truth_of v)

-- Before a's first presence x is 0; z is 0, or from c's first presence on the status of that cell, and y its tick. From a's first presence on x
-- is the next tick at which c is looked at anew, y by how many ticks c began before a, and z the status that governs until then. g is the
-- status of c's cell at tick t.
abbrev pub noted : ℕ → ℕ → Held → Held
noted t g h = cond (h.z == 0) (record h { y = t; z = g }) h

abbrev pub begun_by : Bool → ℕ → ℕ → Held → Held
begun_by true w t h = record h { x = t + w; y = t - h.y }
begun_by false w t h = h

abbrev pub view_next : ℕ → ℕ → Bool → ℕ → Held → Held
view_next w t a g h =
    cond (h.x == 0) (begun_by a w t (noted t g h)) (cond (t == h.x) (record h { x = t + w; z = g }) h)

-- a's value x by the status that governs
abbrev pub view_pass : Bool → ℕ → ℕ → Step
view_pass u x g = cond (g == 0) clashes (cond (g == 1 + bit u) (is (present x)) (is absent))

abbrev pub view_step : Bool → Cell → Held → Step
view_step u absent h = is absent
view_step u (present x) h = view_pass u x h.z

-- before tick t, where c is to be looked at anew and began before a: far is its cell so many ticks before
abbrev pub look_for : ℕ → ℕ → Cell → Held → Held
look_for w t far h =
    cond (t == h.x) (cond (h.y == 0) h (cond (nat_le h.y t) (record h { x = t + w; z = status far }) h)) h

-- What a row comes to at tick t, where at is the place of the tick's first word in the log and here has the cells of lower flows.
unfoldable pub step_of : Row → ℕ → List ℕ → ℕ → (ℕ → Cell) → Held → Step
step_of (input n p) t log at here h = timed_step t (slice_index log (at + h.y)) h
step_of (constant v n p) t log at here h = timed_step t v h
step_of (combine op a b) t log at here h = combined op (here a) (here b)
step_of (register v b a) t log at here h = register_step (here b) h
step_of (faster a k g) t log at here h = faster_step t (here a) h
step_of (slower a k) t log at here h = slower_step (here a) h
step_of (later a d) t log at here h = later_step (here a) d h
step_of (head a v s) t log at here h = head_step t (here a) v s h
step_of (tail a) t log at here h = tail_step (here a) h
step_of (sample u a c) t log at here h = sampled u (here a) (here c)
step_of (merge c a b) t log at here h = merged (here c) (here a) (here b)
step_of unrated t log at here h = is absent
step_of (view u a c w) t log at here h = view_step u (here a) (view_next w t (mark (here a)) (status (here c)) h)

-- and what it then carries
unfoldable pub next_of : Row → ℕ → (ℕ → Cell) → Held → Held
next_of (input n p) t here h = timed_next t n h
next_of (constant v n p) t here h = timed_next t n h
next_of (combine op a b) t here h = h
next_of (register v b a) t here h = h
next_of (faster a k g) t here h = faster_next t (here a) k g h
next_of (slower a k) t here h = slower_next (here a) k h
next_of (later a d) t here h = h
next_of (head a v s) t here h = head_next t (here a) s h
next_of (tail a) t here h = tail_next (here a) h
next_of (sample u a c) t here h = h
next_of (merge c a b) t here h = h
next_of unrated t here h = h
next_of (view u a c w) t here h = view_next w t (mark (here a)) (status (here c)) h

-- A row's step: its outcome, and the words that it then carries.
pub record Did (row : Row) (t : ℕ) (log : List ℕ) (at : ℕ) (here : ℕ → Cell) (h h' : Held) (r : Outcome) : Type 0 where
  pub answer : r ≡ outcome_of (step_of row t log at here h)
  pub carried : h' ≡ next_of row t here h

-- The first word that a row carries into tick 0.
unfoldable pub start_word : Row → ℕ
start_word (input n p) = p
start_word (constant v n p) = p
start_word (combine op a b) = 0
start_word (register v b a) = v
start_word (faster a k g) = 0
start_word (slower a k) = 0
start_word (later a d) = 0
start_word (head a v s) = 0
start_word (tail a) = 0
start_word (sample u a c) = 0
start_word (merge c a b) = 0
start_word unrated = 0
start_word (view u a c w) = 0

-- and all of them, where j inputs stand before it
abbrev pub start_of : Row → ℕ → Held
start_of row j = record nothing { x = start_word row; y = j }

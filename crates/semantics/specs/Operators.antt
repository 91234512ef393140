-- What each operator makes of its operands' cells at a tick and of their histories before it. The tick is the history's length.
use Rattle.std.specs.Prelude.{ℕ, zero, suc, ◌+◌, ◌*◌, ◌-◌, ◌/◌, ◌%◌, ◌^◌, Bool, true, false, cond, ◌&&◌, ◌||◌, not, ◌∷◌, length, eqb, ltb, ℤ, pos, ◌-ℤ◌}
use Rattle.std.specs.Bool.{beq}
use Rattle.std.proofs.Math.Option.{Option, none, some}
use Rattle.std.specs.Int.Signed.{lt_z}
use Rattle.table.specs.Bits.{bit}
use Rattle.table.specs.Rows.{Op, add, subtract, less, equal, larger}
use Rattle.semantics.specs.Cells.{Cell, absent, present, mark, History, back, cell_on, count, Presence, latest, first, on_grid}

-- a cell, or a clash (the paper's word for operands whose presences disagree)
pub data Step : Type 0 where
  is : Cell → Step
  clashes : Step

abbrev pub clash_unless : Bool → Cell → Step
clash_unless true c = is c
clash_unless false c = clashes

-- Input, constant: present at phase plus whole periods.
abbrev pub timed : ℕ → ℕ → ℕ → ℕ → Cell
timed n p t v = cond (on_grid n p t) (present v) absent

-- The number that a value's 32 bits stand for, in two's complement: the value itself below 2 ^ 31, and 2 ^ 32 less from there on.
unfoldable pub signed : ℕ → ℤ
signed x = cond (ltb x (2 ^ 31)) (pos x) (pos x -ℤ pos (2 ^ 32))

-- the order of less and larger, which read both operands as signed numbers
unfoldable pub below : ℕ → ℕ → Bool
below x y = lt_z (signed x) (signed y)

abbrev pub apply : Op → ℕ → ℕ → ℕ
apply add x y = (x + y) % 2 ^ 32
apply subtract x y = (x + 2 ^ 32 - y) % 2 ^ 32
apply less x y = bit (below x y)
apply equal x y = bit (eqb x y)
apply larger x y = cond (below x y) y x

-- Kinds 2 to 6: present when both operands are. One alone: clash.
unfoldable pub combined : Op → Cell → Cell → Step
combined op absent absent = is absent
combined op absent (present y) = clashes
combined op (present x) absent = clashes
combined op (present x) (present y) = is (present (apply op x y))

-- Register: present when its beat is, with the value of the source's latest earlier presence, or the initial value if none.
abbrev pub value_or : ℕ → Option Presence → ℕ
value_or v none = v
value_or v (some e) = e.value

unfoldable pub registered : ℕ → Cell → History → Cell
registered v absent h = absent
registered v (present b) h = present (value_or v (latest h))

-- Faster: a's cell i × g ticks before, for the smallest i below k at which a was present. From j ticks before on.
unfoldable pub copied : ℕ → ℕ → ℕ → History → Cell
copied zero g j h = absent
copied (suc k) g j h = cond (mark (back h j)) (back h j) (copied k g (j + g) h)

-- the latest earlier presence, if there is one, was exactly n ticks before tick t
abbrev pub exactly : ℕ → ℕ → Option Presence → Bool
exactly n t none = true
exactly n t (some e) = eqb (t - e.tick) n

abbrev pub spaced : ℕ → Cell → History → Bool
spaced n absent h = true
spaced n (present v) h = exactly n (length h) (latest h)

unfoldable pub faster_of : ℕ → ℕ → Cell → History → Step
faster_of k g a h = clash_unless (spaced (k * g) a h) (copied k g 0 (a ∷ h))

-- Slower: presences number 0, k, 2k, .. of a.
unfoldable pub slower_of : ℕ → Cell → History → Cell
slower_of k a h = cond (eqb (count h % k) 0) a absent

-- Later: a's cell d ticks before, absent where there is no such tick.
unfoldable pub later_of : ℕ → Cell → History → Cell
later_of d a h = back (a ∷ h) d

-- Tail: a without its first presence.
unfoldable pub tail_of : Cell → History → Cell
tail_of a h = cond (eqb (count h) 0) absent a

-- Head: the value at tick s, afterwards a, which is present after s only. At a's second presence t2, its first at t1, t1 − s is t2 − t1.
abbrev pub evenly : ℕ → ℕ → Option Presence → Bool
evenly s t2 none = true
evenly s t2 (some e) = eqb (e.tick - s) (t2 - e.tick)

unfoldable pub head_fits : ℕ → ℕ → History → Bool
head_fits s t h = ltb s t && (not (eqb (count h) 1) || evenly s t (latest h))

unfoldable pub head_of : ℕ → ℕ → Cell → History → Step
head_of v s absent h = is (cond (eqb (length h) s) (present v) absent)
head_of v s (present x) h = clash_unless (head_fits s (length h) h) (present x)

-- A value's truth: true is not 0.
abbrev pub truth_of : ℕ → Bool
truth_of v = not (eqb v 0)

-- When, when-not: a and c both present or both absent, else clash. Present when both are and c has the truth u.
unfoldable pub sampled : Bool → Cell → Cell → Step
sampled u absent absent = is absent
sampled u absent (present c) = clashes
sampled u (present x) absent = clashes
sampled u (present x) (present c) = is (cond (beq (truth_of c) u) (present x) absent)

-- Merge: c absent needs a and b absent; c non-zero needs a alone; c zero needs b alone; else clash.
unfoldable pub neither : Cell → Cell → Step
neither absent absent = is absent
neither absent (present y) = clashes
neither (present x) b = clashes

unfoldable pub alone : Cell → Cell → Step
alone absent b = clashes
alone (present x) absent = is (present x)
alone (present x) (present y) = clashes

unfoldable pub merged : Cell → Cell → Cell → Step
merged absent a b = neither a b
merged (present c) a b = cond (truth_of c) (alone a b) (alone b a)

-- When-seen, when-not-seen, where a has its first presence at tick s, and c at tick r. At tick t: the latest tick not past t that lies zero or
-- more times w after s; and the tick at which c is looked at, as far from r as that one is from s.
abbrev pub view_start : ℕ → ℕ → ℕ → ℕ
view_start w s t = s + w * ((t - s) / w)

abbrev pub looked_at : ℕ → ℕ → ℕ → ℕ → ℕ
looked_at w s r t = view_start w s t - s + r

-- c's cell at that tick, in a history k that ends with tick t: absent where that tick is past t, or where c has not begun
abbrev pub seen : ℕ → ℕ → Option ℕ → Option ℕ → History → Cell
seen w t (some s) (some r) k = cell_on k (looked_at w s r t)
seen w t (some s) none k = absent
seen w t none r k = absent

-- a's value x, present where c's value has the truth u; without a value of c: clash
abbrev pub governed : Bool → ℕ → Cell → Step
governed u x absent = clashes
governed u x (present v) = is (cond (beq (truth_of v) u) (present x) absent)

-- h and k are the histories of a and c before this tick. Where a is absent, so is the result, whatever c does.
unfoldable pub viewed : Bool → ℕ → Cell → History → Cell → History → Step
viewed u w absent h c k = is absent
viewed u w (present x) h c k = governed u x (seen w (length h) (first (present x ∷ h)) (first (c ∷ k)) (c ∷ k))

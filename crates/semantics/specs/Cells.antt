-- Cells, and the history of one flow.
use Rattle.std.specs.Prelude.{ℕ, suc, ◌-◌, ◌%◌, Bool, true, false, cond, ◌&&◌, List, [], ◌∷◌, length, get_or, eqb, leb}
use Rattle.std.proofs.Math.Option.{Option, none, some}

-- a flow at a tick
pub data Cell : Type 0 where
  absent : Cell
  present : (value : ℕ) → Cell

abbrev pub mark : Cell → Bool
mark absent = false
mark (present v) = true

abbrev pub value : Cell → ℕ
value absent = 0
value (present v) = v

-- A flow's cells at the ticks so far, the latest first. The tick of a cell is the count of those after it in the list.
abbrev pub History : Type 0
History = List Cell

-- the cell i ticks before the latest; absent where there is no such tick
abbrev pub back : History → ℕ → Cell
back h i = get_or h i absent

-- the cell of tick u; absent where there is no such tick so far
unfoldable pub cell_on : History → ℕ → Cell
cell_on [] u = absent
cell_on (c ∷ h) u = cond (eqb u (length h)) c (cell_on h u)

-- how many presences
unfoldable pub count : History → ℕ
count [] = 0
count (absent ∷ h) = count h
count (present v ∷ h) = suc (count h)

pub record Presence : Type 0 where
  pub tick : ℕ
  pub value : ℕ

-- the latest presence
unfoldable pub latest : History → Option Presence
latest [] = none
latest (absent ∷ h) = latest h
latest (present v ∷ h) = some record { tick = length h; value = v }

-- the tick of the first presence: the one found before tick t, or else t where there is a presence at it
abbrev pub first_or : Option ℕ → ℕ → Cell → Option ℕ
first_or (some s) t c = some s
first_or none t absent = none
first_or none t (present v) = some t

unfoldable pub first : History → Option ℕ
first [] = none
first (c ∷ h) = first_or (first h) (length h) c

-- tick t is phase p plus whole periods n
unfoldable pub on_grid : ℕ → ℕ → ℕ → Bool
on_grid n p t = leb p t && eqb ((t - p) % n) 0

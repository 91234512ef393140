-- A window of a run's ticks, and the tally of each flow: what they hold when the run has ended.
use Rattle.std.specs.Prelude.{◌≡◌, ℕ, ◌+◌, ◌*◌, ◌%◌, ◌≤◌, ◌<◌, List, length, get_or}
use Rattle.semantics.specs.Cells.{Cell, cell_on, count, latest}
use Rattle.semantics.specs.Operators.{value_or}
use Rattle.semantics.specs.Runs.{Ticks, history}

-- A window of room ticks of n flows has the last room of the ticks, or all of them, tick t at place t modulo room, each cell as g gives it. What
-- no tick has come to, and what is beyond the window, is as it was.
pub record Windowed (room n : ℕ) (g : Cell → ℕ) (ticks : Ticks) (old new : List ℕ) : Type 0 where
  pub size : length new ≡ length old
  pub last : (t f : ℕ) → t < length ticks → length ticks ≤ t + room → f < n → get_or new (t % room * n + f) 0 ≡ g (cell_on (history ticks f) t)
  pub unreached : (i : ℕ) → length ticks * n ≤ i → get_or new i 0 ≡ get_or old i 0
  pub rest : (i : ℕ) → room * n ≤ i → get_or new i 0 ≡ get_or old i 0

-- how many words a tally has
abbrev pub tally_size : ℕ
tally_size = 2

-- The tallies of n flows: for each how many values it had, and its last one, 0 if none. The rest is as it was.
pub record Tallied (n : ℕ) (ticks : Ticks) (old new : List ℕ) : Type 0 where
  pub size : length new ≡ length old
  pub counts : (f : ℕ) → f < n → get_or new (tally_size * f) 0 ≡ count (history ticks f)
  pub lasts : (f : ℕ) → f < n → get_or new (tally_size * f + 1) 0 ≡ value_or 0 (latest (history ticks f))
  pub rest : (i : ℕ) → tally_size * n ≤ i → get_or new i 0 ≡ get_or old i 0

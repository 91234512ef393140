-- The same of long runs, by what their windows and tallies hold. Proved in proofs/LongRuns.
use Rattle.std.specs.Prelude.{◌≡◌, ℕ, suc, ◌+◌, ◌*◌, ◌%◌, ◌≤◌, ◌<◌, List, get_or}
use Rattle.table.specs.Plain.{table_of, rows_in}
use Rattle.semantics.specs.Cells.{Cell}
use Rattle.semantics.specs.Runs.{Ticks, done, run}
use Rattle.semantics.specs.Windows.{Windowed, tally_size, Tallied}
use Rattle.calendar.specs.Calendar.{cell_at}
use Rattle.influence.specs.Influence.{Agreeing}

-- a run that came to its end, of any count of ticks
pub record Ended (m : ℕ) (words log : List ℕ) (ticks : ℕ) : Type 0 where
  pub past : Ticks
  pub ran : run (rows_in (table_of m words)) log ticks ≡ done past

pub record LongRuns : Type 0 where
  -- a tick up to t that is in both windows has the same cell of the flow, its mark and its value
  pub same_window :
      (m : ℕ) (words clocks sets : List ℕ) (t : ℕ) (log log' : List ℕ) (f : ℕ) → Agreeing m words clocks sets t log log' f
      → (ticks ticks' : ℕ) (r : Ended m words log ticks) (r' : Ended m words log' ticks') → t < ticks → t < ticks'
      → (room : ℕ) (g : Cell → ℕ) (old new old' new' : List ℕ) → Windowed room m g r.past old new → Windowed room m g r'.past old' new'
      → (u : ℕ) → u ≤ t → ticks ≤ u + room → ticks' ≤ u + room → cell_at m new (u % room) f ≡ cell_at m new' (u % room) f
  -- of runs of t + 1 ticks the flow has the same tally: how many values, and the last one
  pub same_tally :
      (m : ℕ) (words clocks sets : List ℕ) (t : ℕ) (log log' : List ℕ) (f : ℕ) → Agreeing m words clocks sets t log log' f
      → (r : Ended m words log (suc t)) (r' : Ended m words log' (suc t))
      → (old new old' new' : List ℕ) → Tallied m r.past old new → Tallied m r'.past old' new'
      → (get_or new (tally_size * f) 0 ≡ get_or new' (tally_size * f) 0) × (get_or new (tally_size * f + 1) 0 ≡ get_or new' (tally_size * f + 1) 0)

-- The same of long runs. Assumes nothing.
use mathlib.Core.Path.{◌≡◌, sym, ◌∙◌, ap}
use Prim.Native.Nat.{ℕ, suc, ◌+◌, ◌*◌, ◌-◌, ◌%◌, ◌≤◌, ◌<◌}
use native.Mathlib.Omega.{arith}
use mathlib.Core.List.{List}
use lib.ListN.{get_or}
use Rattle.table.specs.Answers.{good}
use Rattle.table.specs.Rows.{Row}
use Rattle.table.specs.Plain.{table_of}
use Rattle.semantics.specs.Cells.{Cell, History, back, cell_on, count, latest}
use Rattle.semantics.specs.Operators.{value_or}
use Rattle.semantics.specs.Runs.{Ticks, history, done, run}
use Rattle.semantics.specs.Windows.{Windowed, tally_size, Tallied}
use Rattle.semantics.proofs.Traces.{history_length, tick_back, run_length}
use Rattle.calendar.specs.Calendar.{cell_at}
use Rattle.influence.specs.Influence.{Agreeing}
use Rattle.influence.specs.LongRuns.{Ended, LongRuns}
use Rattle.influence.proofs.Histories.{agreed, same_back}

-- the run is that of the plan's rows
of_rows : (m : ℕ) (words : List ℕ) (rows : List Row) → table_of m words ≡ good rows → (log : List ℕ) (ticks : ℕ) (r : Ended m words log ticks) → run rows log ticks ≡ done r.past
of_rows m words rows e log ticks r = rw e at r.ran

-- the cell of tick u, counted from the latest
cell_back : (rows : List Row) (log : List ℕ) (ticks : ℕ) (past : Ticks) → run rows log ticks ≡ done past → (f u : ℕ) → u < ticks
    → cell_on (history past f) u ≡ back (history past f) (ticks - suc u)
cell_back rows log ticks past e f u l = tick_back (history past f) u (ticks - suc u) (omega (arith, history_length past f ∙ run_length rows log ticks past e))

same_window : (m : ℕ) (words clocks sets : List ℕ) (t : ℕ) (log log' : List ℕ) (f : ℕ) → Agreeing m words clocks sets t log log' f
    → (ticks ticks' : ℕ) (r : Ended m words log ticks) (r' : Ended m words log' ticks') → t < ticks → t < ticks'
    → (room : ℕ) (g : Cell → ℕ) (old new old' new' : List ℕ) → Windowed room m g r.past old new → Windowed room m g r'.past old' new'
    → (u : ℕ) → u ≤ t → ticks ≤ u + room → ticks' ≤ u + room → cell_at m new (u % room) f ≡ cell_at m new' (u % room) f
same_window m words clocks sets t log log' f a ticks ticks' r r' l l' room g old new old' new' w w' u y z z' =
    let h = agreed m words clocks sets t log log' f a in
    let rows : List Row = h.plan.rows in
    let d = of_rows m words rows h.plan.is_table log ticks r in
    let d' = of_rows m words rows h.plan.is_table log' ticks' r' in
    w.last u f (omega (arith, run_length rows log ticks r.past d)) (omega (arith, run_length rows log ticks r.past d)) a.flow
    ∙ ap g
    (cell_back rows log ticks r.past d f u (omega arith) ∙ same_back m words t log log' f h ticks ticks' r.past r'.past l l' d d' u y
    ∙ sym (cell_back rows log' ticks' r'.past d' f u (omega arith)))
    ∙ sym (w'.last u f (omega (arith, run_length rows log' ticks' r'.past d')) (omega (arith, run_length rows log' ticks' r'.past d')) a.flow)

same_tally : (m : ℕ) (words clocks sets : List ℕ) (t : ℕ) (log log' : List ℕ) (f : ℕ) → Agreeing m words clocks sets t log log' f
    → (r : Ended m words log (suc t)) (r' : Ended m words log' (suc t)) → (old new old' new' : List ℕ) → Tallied m r.past old new → Tallied m r'.past old' new'
    → (get_or new (tally_size * f) 0 ≡ get_or new' (tally_size * f) 0) × (get_or new (tally_size * f + 1) 0 ≡ get_or new' (tally_size * f + 1) 0)
same_tally m words clocks sets t log log' f a r r' old new old' new' w w' =
    let h = agreed m words clocks sets t log log' f a in
    let rows : List Row = h.plan.rows in
    let e : history r.past f ≡ history r'.past f =
    h.histories r.past r'.past (of_rows m words rows h.plan.is_table log (suc t) r) (of_rows m words rows h.plan.is_table log' (suc t) r') in (
      w.counts f a.flow ∙ ap count e ∙ sym (w'.counts f a.flow),
      w.lasts f a.flow ∙ ap (λ (d : History). value_or 0 (latest d)) e ∙ sym (w'.lasts f a.flow),
    )

pub long_runs : LongRuns
long_runs = record { same_window = same_window; same_tally = same_tally }

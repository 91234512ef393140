-- The long run between two stretches of ticks: what its loop's invariant says, and how a stretch keeps it. Assumes nothing.
use Rattle.std.proofs.Common.{◌≡◌, ℕ, ◌+◌, ◌-◌, ◌*◌, ◌<◌, ◌≤◌, List, [], length, drop, sym, refl, ap, ◌∙◌, subst, arith}
use Rattle.table.specs.Rows.{Row}
use Rattle.semantics.specs.Cells.{Cell, absent, value}
use Rattle.semantics.specs.Runs.{Ticks, run}
use Rattle.semantics.specs.Answers.{mark_byte}
use Rattle.semantics.specs.Windows.{Windowed, Tallied}
use Rattle.semantics.proofs.Traces.{run_earlier}
use Rattle.runner.specs.Long.{window_ticks, LongRan}
use Rattle.runner.specs.declared.carried.Held.{Held}
use Rattle.runner.specs.Private.Ready.{AllCarry, Reached}
use Rattle.runner.specs.Private.Placed.{placed, Recalls, Running, TicksEnd, Unclashed, stretch_ticks}
use Rattle.runner.proofs.Placing.{windowed, window_fits}
use Rattle.runner.proofs.Running.{starts, recall, filled_up}

pub record Underway (n t : ℕ) (rows : List Row) (log ms₀ vs₀ ts₀ : List ℕ) (s : List Held) (ms vs ts : List ℕ) : Type 0 where
  pub running : Running n window_ticks t rows log ms₀ vs₀ s ms vs
  pub tallied : Tallied n running.past ts₀ ts

pub begun : (n : ℕ) (rows : List Row) (log ms vs ts : List ℕ) (s : List Held) → AllCarry rows 0 [] s → Tallied n [] ts ts → Underway n 0 rows log ms vs ts s ms vs ts
unfolding starts
begun n rows log ms vs ts s C T = record { running = starts C; tallied = T }

-- a stretch more: its ticks are filled, since none clashes, and then tallied
pub stretched :
    (n t next : ℕ) (rows : List Row) (log ms₀ vs₀ ts₀ : List ℕ) (s : List Held) (ms vs ts : List ℕ) (s' : List Held) (ms' vs' ts' : List ℕ) (r : Reached) → Underway n t rows log ms₀ vs₀ ts₀ s ms vs ts
    → Unclashed rows log → t < next → next ≤ t + stretch_ticks → window_ticks * n ≤ length ms' → window_ticks * n ≤ length vs'
    → TicksEnd n window_ticks next rows log (run rows log next) ms₀ vs₀ s' ms' vs' r
    → ((past : Ticks) (old : List ℕ) → length past ≡ next → next ≤ t + window_ticks → Recalls window_ticks n next past ms' vs'
    → Tallied n (drop (next - t) past) old ts → Tallied n past old ts')
    → Underway n next rows log ms₀ vs₀ ts₀ s' ms' vs' ts'
stretched n t next rows log ms₀ vs₀ ts₀ s ms vs ts s' ms' vs' ts' r U N lo hi hm hv D tally =
    let R : Running n window_ticks next rows log ms₀ vs₀ s' ms' vs' = filled_up n window_ticks next rows log ms₀ vs₀ s' ms' vs' r N D in
    let e : (next - t) + t ≡ next = omega arith in
    let before : drop (next - t) R.past ≡ U.running.past =
    run_earlier rows log t (next - t) U.running.past R.past U.running.so_far (ap (run rows log) e ∙ R.so_far) in
    let seen : Recalls window_ticks n next R.past ms' vs' =
    recall R (window_fits window_ticks n next (length ms') (omega arith) hm) (window_fits window_ticks n next (length vs') (omega arith) hv) in
    record {
      running = R;
      tallied = tally R.past ts₀ R.ticks (omega arith) seen (subst (λ (p : Ticks). Tallied n p ts₀ ts) (sym before) U.tallied);
    }

-- the end
pub all_ticks :
    (n t ticks : ℕ) (rows : List Row) (log ms₀ vs₀ ts₀ : List ℕ) (s : List Held) (ms vs ts : List ℕ) → Underway n t rows log ms₀ vs₀ ts₀ s ms vs ts → ticks ≤ t → t ≤ ticks
    → window_ticks * n ≤ length ms₀ → window_ticks * n ≤ length vs₀ → LongRan n log ticks rows ms₀ vs₀ ts₀ ms vs ts
all_ticks n t ticks rows log ms₀ vs₀ ts₀ s ms vs ts U l h hm hv =
    record {
      past = R.past;
      ran = ap (run rows log) (let e : ticks ≡ t = omega arith in e) ∙ R.so_far;
      marks = window mark_byte refl ms₀ ms hm R.marks;
      values = window value refl vs₀ vs hv R.values;
      tallies = U.tallied;
    }
  where
    R : Running n window_ticks t rows log ms₀ vs₀ s ms vs
    R = U.running

    window : (g : Cell → ℕ) → g absent ≡ 0 → (l l' : List ℕ) → window_ticks * n ≤ length l → l' ≡ placed window_ticks n g l R.past
        → Windowed window_ticks n g R.past l l'
    window g z l l' w e =
        subst (Windowed window_ticks n g R.past l) (sym e)
        (windowed window_ticks n g l z (omega arith) R.past R.regular (window_fits window_ticks n (length R.past) (length l) (omega arith) w))

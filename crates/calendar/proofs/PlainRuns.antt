-- The run of an accepted plan without conditions: each flow is present at its phase plus whole periods. Assumes nothing.
use mathlib.Core.Path.{◌≡◌, sym, ◌∙◌, ap, subst}
use Prim.Native.Nat.{ℕ, ◌+◌, ◌*◌, ◌<◌}
use native.Mathlib.Omega.{arith}
use mathlib.Core.Bool.{true}
use mathlib.Core.List.{List}
use lib.ListN.{length, get_or}
use Rattle.table.specs.Answers.{good}
use Rattle.table.specs.Rows.{Row}
use Rattle.table.specs.Plain.{table_of}
use Rattle.table.proofs.Tables.{AllFit, table_made}
use Rattle.checker.specs.Clocks.{Clock, plain}
use Rattle.checker.specs.Rules.{clock_at, clocks_of}
use Rattle.checker.proofs.CheckLaws.{Ruled, clocks_ruled}
use Rattle.semantics.specs.Cells.{absent, mark, on_grid}
use Rattle.semantics.specs.Runs.{Ticks, cell_in, history, done, run, cells, Regular as Wide}
use Rattle.semantics.proofs.Traces.{history_length, cells_length, tick_now}
use Rattle.calendar.specs.Calendar.{free}
use Rattle.calendar.proofs.Dues.{due_plain}
use Rattle.calendar.proofs.Accepted.{Runs, runs}
use Rattle.calendar.proofs.Unclashed.{rows_fit}
use Rattle.calendar.proofs.Unconditional.{all_plain, free_rows}
use Rattle.calendar.proofs.Shown.{AtTick, at_tick}

-- a run to its end, over clocks without conditions
pub record PlainRun (m : ℕ) (rows : List Row) (ks : List Clock) (log : List ℕ) (ticks : ℕ) : Type 0 where
  pub past : Ticks
  pub eq : run rows log ticks ≡ done past
  pub size : length (cells past) ≡ ticks * m
  pub marked : (t f : ℕ) → t < ticks → f < m → mark (get_or (cells past) (t * m + f) absent) ≡ on_grid (clock_at ks f).period (clock_at ks f).phase t

module _ (m : ℕ) (words : List ℕ) (rows : List Row) (ks : List Clock) (q : table_of m words ≡ good rows) (e : clocks_of rows ≡ good ks) (u : free m words ≡ true) where
  fits : AllFit (length rows) 0 rows
  fits = rows_fit m words rows q

  many : length rows ≡ m
  many = (table_made m words rows q).size

  ruled : Ruled rows ks
  ruled = clocks_ruled (length rows) rows ks fits e

  pub plain_clocks : (f : ℕ) → f < m → plain (clock_at ks f) ≡ true
  plain_clocks f l = all_plain (clock_at ks) (length rows) rows fits (free_rows m words rows q u) ruled.1 f (omega (arith, many))

  pub plain_run : (log : List ℕ) (ticks : ℕ) → PlainRun m rows ks log ticks
  plain_run log ticks =
      record {
        past = r.past;
        eq = r.eq;
        size = cells_length m r.past wide ∙ ap (λ (i : ℕ). i * m) r.size;
        marked =
            λ t f x y.
            let s : AtTick m r.past t = at_tick m r.past t wide (rw r.size x) in
            let k : Clock = clock_at ks f in
            ap mark (s.cell t f (omega arith) y ∙ tick_now (cell_in s.now f) (history s.before f) t (sym s.size ∙ sym (history_length s.before f)))
            ∙ s.keeps (clock_at ks) f (r.kept f (omega (arith, many)))
            ∙ due_plain (clock_at ks) k s.now s.before (plain_clocks f y)
            ∙ ap (on_grid k.period k.phase) s.size;
      }
    where
      r : Runs rows log (clock_at ks) ticks
      r = runs rows ks fits ruled.1 ruled.2 log ticks

      wide : Wide m r.past
      wide = subst (λ (i : ℕ). Wide i r.past) many r.wide

-- A table that the check accepts never clashes, for every log and every count of ticks, and how far its views look back. Assumes nothing.
use mathlib.Core.Path.{◌≡◌, sym, ◌∙◌, subst}
use Prim.Native.Nat.{ℕ, ◌+◌, ◌-◌, ◌≤◌, ◌<◌}
use native.Mathlib.Omega.{arith}
use mathlib.Core.Bool.{Bool, true}
use mathlib.Core.List.{List}
use mathlib.Core.Option.{some}
use lib.ListN.{length}
use Rattle.table.specs.Answers.{good}
use Rattle.table.specs.Rows.{Row, tail, view}
use Rattle.table.specs.Plain.{table_of}
use Rattle.table.specs.Tables.{Fits, row_at}
use Rattle.table.proofs.Lists.{Each, each_get}
use Rattle.table.proofs.Tables.{AllFit, Table, table_made}
use Rattle.checker.specs.Clocks.{Clock, plain}
use Rattle.checker.specs.Rules.{max_derived, clock_of, clock_at, clocks_of}
use Rattle.checker.proofs.RuleLaws.{Rule, by_view, rule_of_lem}
use Rattle.checker.proofs.CheckLaws.{Ruled, clocks_ruled, all_sane}
use Rattle.semantics.specs.Cells.{first}
use Rattle.semantics.specs.Runs.{Ticks, history, done, run, Regular}
use Rattle.calendar.proofs.Views.{begins_at}
use Rattle.calendar.proofs.Keeping.{Kept, regular_past}
use Rattle.calendar.proofs.Accepted.{Runs, runs}

-- the rows of a table fit it
pub rows_fit : (m : ℕ) (words : List ℕ) (rows : List Row) → table_of m words ≡ good rows → AllFit (length rows) 0 rows
rows_fit m words rows e =
    let t : Table m words rows = table_made m words rows e in
    subst (λ (i : ℕ). AllFit i 0 rows) (sym t.size) t.fits

module _ (m : ℕ) (words : List ℕ) (rows : List Row) (ks : List Clock) (q : table_of m words ≡ good rows) (e : clocks_of rows ≡ good ks) (log : List ℕ) (t : ℕ) where
  found : Ruled rows ks
  found = clocks_ruled (length rows) rows ks (rows_fit m words rows q) e

  ran : Runs rows log (clock_at ks) t
  ran = runs rows ks (rows_fit m words rows q) found.1 found.2 log t

  pub unclashed : (past : Ticks) × (run rows log t ≡ done past) × (length past ≡ t) × Regular m past
  unclashed = (ran.past, ran.eq, ran.size, subst (λ (i : ℕ). Regular i ran.past) (table_made m words rows q).size ran.wide)

  -- The flow c of a view begins before a by as many ticks as their phases differ, and those are at most max_derived.
  pub lag :
      (past : Ticks) → run rows log t ≡ done past → (f : ℕ) (u : Bool) (a c w : ℕ) → f < m → row_at rows f ≡ view u a c w
      → (s r : ℕ) → first (history past a) ≡ some s → first (history past c) ≡ some r
      → (r + ((clock_at ks a).phase - (clock_at ks c).phase) ≡ s) × (s ≤ r + max_derived)
  lag past d f u a c w l v s r x y = go (clk f) (rule_of_lem clk f (view u a c w) (clk f) (at_row (λ (g : ℕ) (row : Row). clock_of clk g row ≡ good (clk g)) found.1))
    where
      clk : ℕ → Clock
      clk = clock_at ks

      low : f < length rows
      low = omega (arith, (table_made m words rows q).size)

      at_row : (P : ℕ → Row → Type 0) → Each P 0 rows → P f (view u a c w)
      at_row P h = subst (P f) v (each_get P rows (tail 0) f low h)

      fits : Fits (length rows) f (view u a c w)
      fits = at_row (Fits (length rows)) (rows_fit m words rows q)

      kept : Kept clk (length rows) past
      kept = let z : done ran.past ≡ done past = sym ran.eq ∙ d in let p : ran.past ≡ past = cc in subst (Kept clk (length rows)) p ran.kept

      begins : (b i : ℕ) → b < f → plain (clk b) ≡ true → first (history past b) ≡ some i → i ≡ (clk b).phase
      begins b i z e g = begins_at _ _ (history past b) (regular_past clk past b e (kept b (omega (arith, low)))) i g

      go : (k : Clock) → Rule clk (view u a c w) k → (r + ((clk a).phase - (clk c).phase) ≡ s) × (s ≤ r + max_derived)
      go k (by_view pa pc h) =
          let sa : s ≡ (clk a).phase = begins a s fits.0 pa x in
          let rc : r ≡ (clk c).phase = begins c r fits.1 pc y in
          let few : (clk a).phase ≤ max_derived = (all_sane clk (length rows) rows (rows_fit m words rows q) found.1 a (omega (arith, fits.0, low))).phase_fits in
          (omega (arith, h.begun), omega arith)

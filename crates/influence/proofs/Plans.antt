-- What a plan has whose clocks the check gives. Assumes nothing.
use mathlib.Core.Path.{◌≡◌, ◌∙◌}
use Prim.Native.Nat.{ℕ, ◌<◌}
use native.Mathlib.Omega.{arith}
use mathlib.Core.List.{List}
use lib.ListN.{length}
use Rattle.table.specs.Answers.{good}
use Rattle.table.specs.Rows.{Row, tail}
use Rattle.table.specs.Plain.{table_of}
use Rattle.table.specs.Tables.{row_at}
use Rattle.table.proofs.Tests.{then_good}
use Rattle.table.proofs.Lists.{each_get}
use Rattle.table.proofs.Tables.{Table, table_made}
use Rattle.checker.specs.Clocks.{Clock}
use Rattle.checker.specs.Rules.{clock_of, clock_at, clocks_of}
use Rattle.checker.specs.Answers.{clocks_for, checking}
use Rattle.checker.proofs.CheckLaws.{clocks_ruled}
use Rattle.checker.proofs.Bounds.{accepted_rows}
use Rattle.calendar.specs.Calendar.{Accepts}

pub record Plan (m : ℕ) (words : List ℕ) (ks : List Clock) : Type 0 where
  pub rows : List Row
  pub is_table : table_of m words ≡ good rows
  pub found : clocks_of rows ≡ good ks
  pub table : Table m words rows
  pub size : length ks ≡ m
  pub clock_of_lem : (f : ℕ) → f < m → clock_of (clock_at ks) f (row_at rows f) ≡ good (clock_at ks f)

pub plan : (m : ℕ) (words : List ℕ) (ks : List Clock) → clocks_for m words ≡ good ks → Plan m words ks
plan m words ks e =
    let a = then_good (table_of m words) clocks_of ks e in
    let t : Table m words a.0 = table_made m words a.0 a.1 in
    let r = clocks_ruled m a.0 ks t.fits a.2 in
    record {
      rows = a.0;
      is_table = a.1;
      found = a.2;
      table = t;
      size = r.0 ∙ t.size;
      clock_of_lem = λ f l. each_get (λ (g : ℕ) (q : Row). clock_of (clock_at ks) g q ≡ good (clock_at ks g)) a.0 (tail 0) f (omega (arith, t.size)) r.1;
    }

-- a plan that the check accepts is one
pub accepted : (m : ℕ) (words clocks : List ℕ) → Accepts m words clocks → (ks : List Clock) × (clocks_for m words ≡ good ks) × (checking m words (length clocks) ≡ good ks)
accepted m words clocks x = let a = accepted_rows m words (length clocks) x in (a.1, rw a.2 a.3, a.4)

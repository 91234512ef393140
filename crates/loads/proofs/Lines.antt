-- The numbers of a line whose clock the check gave. Assumes nothing.
use Prim.Native.Nat.{ℕ, ◌≤◌, ◌<◌}
use mathlib.Core.List.{List}
use Rattle.table.specs.Rows.{max_flows}
use Rattle.checker.specs.Clocks.{Clock}
use Rattle.checker.specs.Rules.{max_derived, max_conditions, clock_at}
use Rattle.checker.proofs.CheckLaws.{Sane}
use Rattle.loads.specs.Loads.{Line, line_of}

pub record Bounded (l : Line) : Type 0 where
  pub flow : l.flow < max_flows
  pub positive : 1 ≤ l.period
  pub period : l.period ≤ max_derived
  pub phase : l.phase ≤ max_derived
  pub conditions : l.conditions ≤ max_conditions

pub bounded : (ks : List Clock) (times : List ℕ) (f : ℕ) → f < max_flows → Sane (clock_at ks) f (clock_at ks f) → Bounded (line_of ks times f)
bounded ks times f l s = record { flow = l; positive = s.positive; period = s.period_fits; phase = s.phase_fits; conditions = s.few }

-- Which line stands before another, and what the key of a line says of it: its flow, and where it stands. Assumes nothing.
use mathlib.Core.Path.{◌≡◌, sym}
use Prim.Native.Nat.{◌%◌, ◌<◌}
use native.Mathlib.Omega.{arith}
use Rattle.table.specs.Rows.{max_flows}
use Rattle.loads.specs.Loads.{Line, Before, key}
use Rattle.loads.proofs.Lines.{Bounded}

pub key_flow : (l : Line) → l.flow < max_flows → key l % max_flows ≡ l.flow
key_flow l h = omega arith

pub not_both : {a b : Line} → Before a b → Before b a → ⊥
not_both {a} {b} p q =
    let e : a.period ≡ b.period = omega (arith, p.by_period, q.by_period) in
    let f : a.phase ≡ b.phase = omega (arith, p.by_phase e, q.by_phase (sym e)) in
    omega (arith, p.by_flow e f, q.by_flow (sym e) (sym f))

pub before : (a b : Line) → Bounded a → Bounded b → key a < key b → Before a b
before a b p q h =
    record {
      by_period = omega arith;
      by_phase = λ (e : a.period ≡ b.period). omega arith;
      by_flow = λ (e : a.period ≡ b.period). λ (f : a.phase ≡ b.phase). omega arith;
    }

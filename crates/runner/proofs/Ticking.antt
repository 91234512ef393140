-- A tick is its flows, and then the registers. Assumes nothing.
use Rattle.std.proofs.Common.{◌≡◌, ℕ, List, length, Result, Ok, Err, sym, ◌∙◌, arith}
use mathlib.Core.Option.{Option, none, some}
use Rattle.table.specs.Rows.{Row, bad_register}
use Rattle.semantics.specs.Runs.{Tick, Ticks, TickEnd, filled, stopped, source_meets, sourced_tick, on_flows}
use Rattle.runner.specs.declared.carried.Held.{Held}
use Rattle.runner.specs.Private.Ready.{AllFollow, Wrote, FlowsEnd, LatchEnd, TickDone, Ticked}

-- nothing ends both well and in a clash
pub end_or_clash : {A E : Type 0} {e : E} → ◌≡◌ {A = Result (Unit {0}) E} (Ok tt) (Err e) → A
end_or_clash q = absurd (let z : ◌≡◌ {A = ℕ} 0 1 = cc in omega arith)

pub same_clash : {E : Type 0} {e d : E} → ◌≡◌ {A = Result (Unit {0}) E} (Err e) (Err d) → e ≡ d
same_clash q = cc

module _ (rows : List Row) (t : ℕ) (past : Ticks) (ms vs ms' vs' : List ℕ) (s s' : List Held) where
  pub stops :
      (e : TickEnd) (r : Ticked) (f : ℕ) → FlowsEnd rows t past e ms vs ms' vs' s r → r ≡ Err f
      → TickDone rows t past (on_flows rows e) ms vs ms' vs' s (Err f)
  stops (filled now) r f d q = end_or_clash (sym d.0 ∙ q)
  stops (stopped g now) r f d q = (sym q ∙ d.0, d.1, d.2)

  pub latches : (n : ℕ) → length rows ≡ n → (e : TickEnd) (r r' : Ticked) → FlowsEnd rows t past e ms vs ms' vs' s r → r ≡ Ok tt
      → ((cells : Tick) (ms₀ vs₀ : List ℕ) → length cells ≡ n → Wrote cells ms₀ vs₀ ms' vs' → AllFollow rows t cells past s
      → LatchEnd rows t past cells (bad_register (source_meets cells) 0 rows) s' r')
      → TickDone rows t past (on_flows rows e) ms vs ms' vs' s' r'
  latches n z (stopped g now) r r' d q l = end_or_clash (sym q ∙ d.0)
  latches n z (filled now) r r' d q l = go (bad_register (source_meets now) 0 rows) (l now ms vs (d.2 ∙ z) d.1 d.3)
    where
      go : (o : Option ℕ) → LatchEnd rows t past now o s' r' → TickDone rows t past (sourced_tick now o) ms vs ms' vs' s' r'
      go none p = (p.0, d.1, d.2, p.1)
      go (some f) p = (p.0, d.1, p.1)

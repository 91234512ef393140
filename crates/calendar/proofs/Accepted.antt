-- A plan whose rows and sources have clocks runs to its end on them, for every count of ticks. Assumes nothing.
use mathlib.Core.Path.{◌≡◌, refl, sym, ◌∙◌, ap, subst}
use Prim.Native.Nat.{ℕ, zero, suc, ◌<◌}
use native.Mathlib.Omega.{arith}
use mathlib.Core.Bool.{true}
use mathlib.Core.List.{List, [], ◌∷◌, append-nil}
use mathlib.Core.Option.{none}
use lib.ListN.{length}
use Rattle.table.specs.Rows.{Row, on_register, bad_register}
use Rattle.table.proofs.Tests.{beq_same}
use Rattle.table.proofs.Lists.{Each, each_map, each_both}
use Rattle.table.proofs.Registers.{RegisterOr, is_register_lem, is_other, register_or, Passes, none_bad}
use Rattle.table.specs.Tables.{Fits}
use Rattle.table.proofs.Tables.{AllFit}
use Rattle.checker.specs.Clocks.{Clock}
use Rattle.checker.specs.Rules.{clock_at, source_fits}
use Rattle.checker.proofs.ClockLaws.{same_clock_lem}
use Rattle.checker.proofs.CheckLaws.{Clocked, all_sane}
use Rattle.semantics.specs.Runs.{Tick, Ticks, filled, flows_from, source_meets, tick_of, done, run, Regular as Wide}
use Rattle.calendar.proofs.Dues.{due}
use Rattle.calendar.proofs.Keeping.{Kept, Front, front_law}

-- a run that came to its end, each flow on its clock
pub record Runs (rows : List Row) (log : List ℕ) (clk : ℕ → Clock) (t : ℕ) : Type 0 where
  pub past : Ticks
  pub eq : run rows log t ≡ done past
  pub size : length past ≡ t
  pub wide : Wide (length rows) past
  pub kept : Kept clk (length rows) past

module _ (rows : List Row) (ks : List Clock) (w : AllFit (length rows) 0 rows) (ck : Clocked (clock_at ks) 0 rows)
    (fits : Each (Passes (source_fits ks)) 0 rows) (log : List ℕ) where
  -- a register whose source has its beat's clock finds both present or both absent
  register_meets : (past : Ticks) (now : Tick) → Kept (clock_at ks) (length rows) (now ∷ past) → (f : ℕ) (r : Row) → f < length rows
      → Fits (length rows) f r → on_register (source_fits ks) r ≡ true → on_register (source_meets now) r ≡ true
  register_meets past now k f r l x e = go r (register_or r) x e
    where
      go : (r : Row) → RegisterOr r → Fits (length rows) f r → on_register (source_fits ks) r ≡ true → on_register (source_meets now) r ≡ true
      go r (is_register_lem {b = b} {a = a}) x e =
          beq_same _ _ ((k a x.1).0 ∙ ap (λ (j : Clock). due (clock_at ks) j now past) (same_clock_lem _ _ e) ∙ sym (k b (omega (arith, x.0))).0)
      go r (is_other p) x e = p (source_meets now)

  no_bad_register : (past : Ticks) (now : Tick) → Kept (clock_at ks) (length rows) (now ∷ past) → bad_register (source_meets now) 0 rows ≡ none
  no_bad_register past now k =
      none_bad (source_meets now) 0 rows
      (each_map (λ f r. Fits (length rows) f r × (on_register (source_fits ks) r ≡ true)) (Passes (source_meets now)) 0 rows
      (λ f r l h. register_meets past now k f r (omega arith) h.0 h.1)
      (each_both (Fits (length rows)) (Passes (source_fits ks)) 0 rows w fits))

  one_tick : (t : ℕ) (e : Runs rows log (clock_at ks) t) → Front rows log (clock_at ks) e.past [] rows → Runs rows log (clock_at ks) (suc t)
  unfolding run tick_of flows_from
  one_tick t e fr =
      let size : length fr.tick ≡ length rows = fr.size ∙ omega arith in
      let kept : Kept (clock_at ks) (length rows) (fr.tick ∷ e.past) = subst (λ (i : ℕ). Kept (clock_at ks) i (fr.tick ∷ e.past)) size fr.keeps in
      let flows : flows_from rows log e.past [] rows ≡ filled fr.tick =
      subst (λ (l : List Row). flows_from rows log e.past [] l ≡ filled fr.tick) (append-nil rows) (fr.same []) in
      record {
        past = fr.tick ∷ e.past;
        eq = rw (e.eq, flows, no_bad_register e.past fr.tick kept);
        size = ap suc e.size;
        wide = (size, e.wide);
        kept = kept;
      }

  pub runs : (t : ℕ) → Runs rows log (clock_at ks) t
  unfolding run
  runs zero = record { past = []; eq = refl; size = refl; wide = tt; kept = λ f x. tt }
  runs (suc t) =
      one_tick t (runs t)
      (front_law rows log (clock_at ks) (runs t).past (length rows) (all_sane (clock_at ks) (length rows) rows w ck) (runs t).kept
      (length rows) rows [] (omega arith) w ck (λ f x. absurd (omega arith)))

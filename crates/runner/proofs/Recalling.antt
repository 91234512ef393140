-- Marks and values have the cells of earlier ticks as far back as they have room. Assumes nothing.
use Rattle.std.proofs.Common.{◌≡◌, ℕ, ◌+◌, ◌-◌, ◌^◌, ◌<◌, ◌≤◌, List, length, get_or, refl, ap, ◌∙◌, ap₂, arith}
use Rattle.semantics.specs.Cells.{Cell, absent, value, back}
use Rattle.table.specs.Rows.{Row}
use Rattle.semantics.specs.Runs.{Ticks, history, Regular}
use Rattle.semantics.proofs.Traces.{history_length, run_length}
use Rattle.semantics.specs.Answers.{mark_byte}
use Rattle.runner.specs.Private.Carried.{cell_at}
use Rattle.runner.specs.Private.Placed.{first_cell, Fitting, placed, Recalls, Nearby}
use Rattle.runner.proofs.Placing.{fewer, placed_last}
use Rattle.runner.proofs.Written.{cell_back}
use Rattle.runner.proofs.Views.{first_low}

module _ (room n t : ℕ) (past : Ticks) (z : length past ≡ t) (r : Regular n past) where
  one : (g : Cell → ℕ) → g absent ≡ 0 → (l₀ l : List ℕ) → Fitting room n t (length l₀) → l ≡ placed room n g l₀ past → (a d : ℕ) → a < n → 0 < d → d ≤ t → d ≤ room
      → get_or l (first_cell room n (t - d) + a) 0 ≡ g (back (history past a) (d - 1))
  one g e l₀ l F q a d b p k m =
      ap (λ (y : List ℕ). get_or y (first_cell room n (t - d) + a) 0) q
      ∙ placed_last room n g l₀ e past r (fewer (length past) (omega arith) F) a (t - d) (d - 1) b (omega arith) (omega arith)

  pub recalls : (ms₀ vs₀ ms vs : List ℕ) → Fitting room n t (length ms₀) → Fitting room n t (length vs₀) → ms ≡ placed room n mark_byte ms₀ past
      → vs ≡ placed room n value vs₀ past → Recalls room n t past ms vs
  recalls ms₀ vs₀ ms vs F G p q =
      record {
        cell =
            λ a d b i j m.
            ap₂ cell_at (one mark_byte refl ms₀ ms F p a d b i j m) (one value refl vs₀ vs G q a d b i j m)
            ∙ cell_back (back (history past a) (d - 1));
      }

-- where there is room for every tick, no view looks further back
pub everywhere : (room : ℕ) (rows : List Row) (log : List ℕ) → 2 ^ 24 ≤ room → Nearby room rows log
everywhere room rows log wide =
    record {
      near =
          λ t past l e.
          record {
            lag = λ f u a c w s r k q x y. omega (arith, wide, first_low (history past a) s x, history_length past a, run_length rows log t past e);
          };
    }

-- The tallies, tick after tick. Assumes nothing.
use mathlib.Core.Path.{◌≡◌, refl, sym, ◌∙◌, ap}
use Prim.Native.Nat.{ℕ, ◌+◌, ◌*◌, ◌≤◌, ◌<◌}
use native.Mathlib.Omega.{arith}
use mathlib.Core.Bool.{cond}
use mathlib.Core.List.{List, [], ◌∷◌}
use lib.ListN.{length, get_or}
use Rattle.semantics.specs.Cells.{Cell, absent, present, mark, value, History, count, latest}
use Rattle.semantics.specs.Operators.{value_or}
use Rattle.semantics.specs.Runs.{Tick, Ticks, cell_in, history}
use Rattle.semantics.specs.Windows.{tally_size, Tallied}
use Rattle.semantics.proofs.Traces.{history_length}

-- a flow has no more values than there were ticks
count_few : (h : History) → count h ≤ length h
unfolding count
count_few [] = omega arith
count_few (absent ∷ h) = omega (arith, count_few h)
count_few (present v ∷ h) = omega (arith, count_few h)

pub tally_few : (n : ℕ) (past : Ticks) (ts₀ ts : List ℕ) → Tallied n past ts₀ ts → (f : ℕ) → f < n → get_or ts (tally_size * f) 0 ≤ length past
tally_few n past ts₀ ts T f l = omega (arith, T.counts f l, count_few (history past f), history_length past f)

-- one cell more
count_step : (c : Cell) (h : History) → count (c ∷ h) ≡ cond (mark c) (count h + 1) (count h)
unfolding count
count_step absent h = refl
count_step (present v) h = omega arith

last_step : (c : Cell) (h : History) → value_or 0 (latest (c ∷ h)) ≡ cond (mark c) (value c) (value_or 0 (latest h))
unfolding latest
last_step absent h = refl
last_step (present v) h = refl

-- before the first tick every word is 0
pub tallied_none : (n : ℕ) (ts₀ ts : List ℕ) → length ts ≡ length ts₀ → ((i : ℕ) → i < tally_size * n → get_or ts i 0 ≡ 0)
    → ((i : ℕ) → tally_size * n ≤ i → get_or ts i 0 ≡ get_or ts₀ i 0) → Tallied n [] ts₀ ts
unfolding history count latest
tallied_none n ts₀ ts z low high =
    record { size = z; counts = λ f l. low (2 * f) (omega arith); lasts = λ f l. low (2 * f + 1) (omega arith); rest = high }

-- one tick more
pub tallied_more : (n : ℕ) (past : Ticks) (now : Tick) (ts₀ ts ts' : List ℕ) → Tallied n past ts₀ ts → length ts' ≡ length ts
    → ((f : ℕ) → f < n → get_or ts' (tally_size * f) 0 ≡ cond (mark (cell_in now f)) (get_or ts (tally_size * f) 0 + 1) (get_or ts (tally_size * f) 0))
    → ((f : ℕ) → f < n → get_or ts' (tally_size * f + 1) 0 ≡ cond (mark (cell_in now f)) (value (cell_in now f)) (get_or ts (tally_size * f + 1) 0))
    → ((i : ℕ) → tally_size * n ≤ i → get_or ts' i 0 ≡ get_or ts i 0) → Tallied n (now ∷ past) ts₀ ts'
unfolding history
tallied_more n past now ts₀ ts ts' T z a b r =
    record {
      size = z ∙ T.size;
      counts =
          λ f l.
          a f l
          ∙ ap (λ (k : ℕ). cond (mark (cell_in now f)) (k + 1) k) (T.counts f l)
          ∙ sym (count_step (cell_in now f) (history past f));
      lasts =
          λ f l.
          b f l
          ∙ ap (λ (k : ℕ). cond (mark (cell_in now f)) (value (cell_in now f)) k) (T.lasts f l)
          ∙ sym (last_step (cell_in now f) (history past f));
      rest = λ i l. r i l ∙ T.rest i l;
    }

-- tallies over words that were cleared before
pub tallied_from : (n : ℕ) (past : Ticks) (ts₀ ts ts' : List ℕ) → Tallied n [] ts₀ ts → Tallied n past ts ts' → Tallied n past ts₀ ts'
tallied_from n past ts₀ ts ts' A B =
    record { size = B.size ∙ A.size; counts = B.counts; lasts = B.lasts; rest = λ i l. B.rest i l ∙ A.rest i l }

pub tallied_same : (n : ℕ) (ts₀ ts : List ℕ) → Tallied n [] ts₀ ts → Tallied n [] ts ts
tallied_same n ts₀ ts A = record { size = refl; counts = A.counts; lasts = A.lasts; rest = λ i l. refl }

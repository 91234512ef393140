-- Spreading gives each flow on a chain the only rate that it can have. Assumes nothing.
use mathlib.Core.Path.{◌≡◌, sym, ◌∙◌, ap}
use Prim.Native.Nat.{ℕ, ◌<◌}
use mathlib.Core.List.{List}
use Rattle.std.specs.Prelude.{Option, unwrap_or}
use Rattle.table.specs.Answers.{good}
use Rattle.table.specs.Rows.{Row, Words}
use Rattle.table.specs.Plain.{row_words, joined, draft_of}
use Rattle.table.proofs.Tests.{or_left, or_right}
use Rattle.checker.specs.Answers.{check_number}
use Rattle.reach.specs.Reach.{itself, onward}
use Rattle.rates.specs.Joins.{joined_by, Chained}
use Rattle.rates.specs.Fillings.{Accepted}
use Rattle.rates.specs.Fillings as fillings
use Rattle.rates.specs.declared.steps.Rate.{Rate}
use Rattle.rates.specs.Private.Spread.{rate_of, no_rate, rise, fall, row_made, rates_in, Known, Derived, of_rated, of_operand, of_result, Settled}
use Rattle.rates.proofs.Rising.{rate}
use Rattle.rates.proofs.Judging.{Judged, judged, up, down, at_rated, at_unrated}
use Rattle.rates.proofs.Unique.{on_chain, same_filled}

-- a flow whose rate is derived is on a chain
pub derived_chained : (m : ℕ) (words : List ℕ) (f : ℕ) (q : Rate) → Derived m words f q → Chained m words f
derived_chained m words f q (of_rated l e) = record { from = f; in_plan = l; is_rated = e; chain = itself }
derived_chained m words f q (of_operand {d = d} {q = p} l h k) =
    let c : Chained m words d = derived_chained m words d p k in
    record { from = c.from; in_plan = c.in_plan; is_rated = c.is_rated; chain = onward d f c.chain (or_right (joined_by words d f) _ h) }
derived_chained m words d q (of_result {f = f} {q = p} l h k) =
    let c : Chained m words f = derived_chained m words f p k in
    record { from = c.from; in_plan = c.in_plan; is_rated = c.is_rated; chain = onward f d c.chain (or_left _ _ h) }

-- under an accepted filling it is the rate of the flow's clock
pub derived_rate : (m : ℕ) (words : List ℕ) (rates : ℕ → fillings.Rate) (j : Judged m words rates) (f : ℕ) (q : Rate) → Derived m words f q → q ≡ rate (j.clk f)
derived_rate m words rates j f q (of_rated l e) = sym (at_rated m words rates j f l e)
derived_rate m words rates j f q (of_operand {d = d} {q = p} l h k) =
    ap (rise (row_made (row_words words f))) (derived_rate m words rates j d p k) ∙ sym (up m words rates j f d l h)
derived_rate m words rates j d q (of_result {f = f} {q = p} l h k) =
    ap (fall (row_made (row_words words f))) (derived_rate m words rates j f p k) ∙ sym (down m words rates j f d l h)

module _ (m : ℕ) (words : List ℕ) (rows : List Row) (draft : draft_of m words ≡ good rows) (st : List (Option Rate)) (s : Settled m words st) where
  -- once nothing is left to spread, the rate of each flow on a chain is known
  pub all_known : (f : ℕ) → f < m → Chained m words f → Known st f
  all_known =
      on_chain m words rows draft (Known st) (λ f d l h. (s.closed f l d h).1) (λ f d l h. (s.closed f l d h).0)
      (λ f l c. s.started c.from c.in_plan c.is_rated)

  -- and where some filling is accepted, the one that was spread is
  pub spread_accepted : ((f : ℕ) → f < m → Chained m words f) → (rates : ℕ → fillings.Rate) → Accepted m words rates → Accepted m words (rates_in st)
  spread_accepted chains rates a =
      let j : Judged m words rates = judged m words rates a in
      ap (λ (ws : List Words). check_number m (joined ws))
      (same_filled m words (rates_in st) rates (λ f l e.
      let k : Known st f = all_known f l (chains f l) in
      ap (λ (o : Option Rate). rate_of (unwrap_or o no_rate)) k.1 ∙ ap rate_of (derived_rate m words rates j f k.0 (s.spread f k.0 k.1)) ∙ at_unrated m words rates j f l e))
      ∙ a

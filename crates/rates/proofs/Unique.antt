-- Two accepted fillings are one: rates agree along chains. Assumes nothing.
use mathlib.Core.Path.{◌≡◌, sym, ◌∙◌, ap}
use Prim.Native.Nat.{ℕ, ◌<◌}
use mathlib.Core.Bool.{true}
use mathlib.Core.List.{List}
use lib.Dec.{eqb}
use borrow.Author.Tests.{eqb-true}
use Rattle.table.specs.Answers.{good}
use Rattle.table.specs.Rows.{Row, unrated_kind}
use Rattle.table.specs.Plain.{row_words, draft_of}
use Rattle.table.proofs.Tests.{Tried, passed, failed, try, one_of_lem}
use Rattle.table.proofs.PlainRows.{per_same}
use Rattle.reach.specs.Reach.{Leads, itself, onward}
use Rattle.rates.specs.Joins.{joined_by, joins, Chained, Joined}
use Rattle.rates.specs.Fillings.{Rate, filled_row, filled, Accepted}
use Rattle.rates.specs.Private.Spread.{rate_of, rise, fall, row_made}
use Rattle.rates.proofs.Rising.{rate}
use Rattle.rates.proofs.Judging.{joins_inside, Judged, judged, up, down, at_rated, at_unrated}

-- What holds of a rated flow, and of a result with each flow with which its row joins it, holds along a chain.
module _ (m : ℕ) (words : List ℕ) (rows : List Row) (draft : draft_of m words ≡ good rows) (P : ℕ → Type 0)
    (up_step : (f d : ℕ) → f < m → joined_by words f d ≡ true → P d → P f) (down_step : (f d : ℕ) → f < m → joined_by words f d ≡ true → P f → P d) where
  along : (g f : ℕ) → P g → Leads (joins words) g f → P f
  along g f p itself = p
  along g f p (onward d h c e) =
      let x : P d = along g d p c in
      one_of_lem (joined_by words d f) (joined_by words f d)
      (λ a. down_step d f (joins_inside m words rows draft d f a).0 a x) (λ a. up_step f d (joins_inside m words rows draft f d a).0 a x) e

  pub on_chain : ((f : ℕ) → f < m → (c : Chained m words f) → P c.from) → (f : ℕ) → f < m → Chained m words f → P f
  on_chain start f l c = along c.from f (start f l c) c.chain

-- fillings that agree at the unrated rows fill alike
pub same_filled : (m : ℕ) (words : List ℕ) (q r : ℕ → Rate) → ((f : ℕ) → f < m → (row_words words f).kind ≡ unrated_kind → q f ≡ r f) → filled m words q ≡ filled m words r
same_filled m words q r h = per_same (λ f. filled_row (q f) (row_words words f)) (λ f. filled_row (r f) (row_words words f)) m (λ f l. go f l (try (eqb (row_words words f).kind unrated_kind)))
  where
    go : (f : ℕ) → f < m → Tried (eqb (row_words words f).kind unrated_kind) → filled_row (q f) (row_words words f) ≡ filled_row (r f) (row_words words f)
    go f l (passed e) = ap (λ (x : Rate). filled_row x (row_words words f)) (h f l (eqb-true (row_words words f).kind unrated_kind e))
    go f l (failed e) = rw e

pub unique : (m : ℕ) (words : List ℕ) (q r : ℕ → Rate) → Joined m words → Accepted m words q → Accepted m words r → filled m words q ≡ filled m words r
unique m words q r t a b =
    let j : Judged m words q = judged m words q a in
    let i : Judged m words r = judged m words r b in
    same_filled m words q r (λ f l e.
    sym (at_unrated m words q j f l e)
    ∙ ap rate_of (on_chain m words t.rows t.draft (λ g. rate (j.clk g) ≡ rate (i.clk g))
    (λ f d l h x. up m words q j f d l h ∙ ap (rise (row_made (row_words words f))) x ∙ sym (up m words r i f d l h))
    (λ f d l h x. down m words q j f d l h ∙ ap (fall (row_made (row_words words f))) x ∙ sym (down m words r i f d l h))
    (λ f l c. at_rated m words q j c.from c.in_plan c.is_rated ∙ sym (at_rated m words r i c.from c.in_plan c.is_rated)) f l (t.chains f l))
    ∙ at_unrated m words r i f l e)

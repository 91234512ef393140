use mathlib.Core.Path.{◌≡◌, refl, sym, ◌∙◌, ap}
use Prim.Native.Nat.{ℕ}
use native.Mathlib.Numerals.{add-one}
use native.Mathlib.Omega.{arith}
use Rattle.table.specs.Answers.{over}
use Rattle.table.specs.Rows.{Words}
use Rattle.table.specs.Plain.{row_words, words_of, joined, put_row, per_flow}
use Rattle.table.proofs.PlainRows.{per_length, put_next}
use Rattle.rates.specs.Fillings.{filled_row, filled}
use Rattle.rates.specs.declared.steps.Rate.{Rate}
use Rattle.rates.specs.Private.Spread.{rate_of, rates_in}
use Rattle.rates.proofs.Draft.store.Goals as goal

pub loop-f-init : goal.loop-f-init
unfolding per_flow joined
loop-f-init c = refl

pub loop-f-preserved : goal.loop-f-preserved
unfolding per_flow
loop-f-preserved c =
    let a = c.args in
    let l = c.loop-f in
    let ws = a.self.words.now in
    let rates = rates_in a.rates.now in
    let make : ℕ → Words = λ g. filled_row (rates g) (row_words ws g) in
    let row : words_of c.fill_row.result ≡ make l.f =
    c.fill_row.ensures ∙ ap (λ (q : Rate). filled_row (rate_of q) (words_of c.record_at.result)) c.unwrap_or-rate.ensures ∙ ap (filled_row (rates l.f)) c.record_at.ensures in
    c.put_record.ensures ∙ ap (λ (w : Words). put_row l.f w l.rows) row
    ∙ put_next (filled l.f ws rates) (make l.f) a.rows.now l.rows l.f (per_length make l.f) l.invariant (omega (arith, c.requires))
    ∙ ap (λ (i : ℕ). over (joined (filled i ws rates)) a.rows.now) (sym (add-one l.f))

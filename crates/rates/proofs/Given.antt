-- What the call comes to is determined, and is what the wish says. Assumes nothing.
use mathlib.Core.Path.{◌≡◌, refl, sym, ◌∙◌, ap, ap₂}
use Prim.Native.Nat.{ℕ, ◌*◌, ◌≤◌, ◌<◌}
use native.Mathlib.Omega.{arith}
use native.Mathlib.Decide.{dec_lt}
use mathlib.Core.List.{List}
use lib.ListN.{length}
use Rattle.table.specs.declared.Answer.{Answer}
use Rattle.table.specs.declared.refusal.Refusal.{Refusal}
use Rattle.table.specs.declared.refusal.Refusal.TheVariants.{ClocksDiffer, NoRoom, Unjoined}
use Rattle.table.specs.Answers.{Result, good, refused, answer, leaves, refusal, success, over}
use Rattle.table.specs.Rows.{Row, Words, row_size}
use Rattle.table.specs.Plain.{row_words, joined, draft_of}
use Rattle.table.proofs.Tests.{not_good}
use Rattle.table.proofs.PlainRows.{per_length}
use Rattle.rates.specs.Joins.{Chained, Joined}
use Rattle.rates.specs.Fillings.{Rate, filled_row, filled, Accepted, Filling, bad_draft, no_chain, none_accepted, without_room, accepted, Filled}
use Rattle.rates.specs.Given.{Given}
use Rattle.rates.proofs.Unique.{unique}

pub filled_count : (m : ℕ) (words : List ℕ) (rates : ℕ → Rate) → length (filled m words rates) ≡ m
filled_count m words rates = per_length (λ f. filled_row (rates f) (row_words words f)) m

module _ (m : ℕ) (words : List ℕ) (room : ℕ) where
  not_draft : {B : Type 0} {why : Refusal} {f : ℕ} {rows : List Row} → draft_of m words ≡ refused why f → draft_of m words ≡ good rows → B
  not_draft e t = not_good (sym e ∙ t)

  off_chain : {B : Type 0} (f : ℕ) → f < m → (Chained m words f → ⊥) → Joined m words → B
  off_chain f l h t = absurd (h (t.chains f l))

  lowest : (f g : ℕ) → (Chained m words f → ⊥) → ((h : ℕ) → h < g → Chained m words h) → g ≤ f
  lowest f g h k = elim (dec_lt f g) [ yes l ↦ absurd (h (k f l)) | no l ↦ omega arith ]

  same_refusal : {why why' : Refusal} {f f' : ℕ} → ◌≡◌ {A = Result (List Row)} (refused why f) (refused why' f') → ◌≡◌ {A = Result (List Words)} (refused why f) (refused why' f')
  same_refusal {why} {why'} {f} {f'} e =
      let w : why ≡ why' = cc in
      let g : f ≡ f' = cc in
      ap₂ refused w g

  -- the cases of two outcomes for which each flow is on a chain
  data Full : Result (List Words) → Type 0 where
    none : ((rates : ℕ → Rate) → Accepted m words rates → ⊥) → Full (refused ClocksDiffer 0)
    short : (rates : ℕ → Rate) → Accepted m words rates → room < row_size * m → Full (refused NoRoom 0)
    whole : (rates : ℕ → Rate) → Accepted m words rates → row_size * m ≤ room → Full (good (filled m words rates))

  full : (r : Result (List Words)) → Joined m words → Filling m words room r → Full r
  full r t (bad_draft why f e) = not_draft e t.draft
  full r t (no_chain rows f e l h k) = off_chain f l h t
  full r t (none_accepted u h) = none h
  full r t (without_room q u a l) = short q a l
  full r t (accepted q u a l) = whole q a l

  full_same : (r s : Result (List Words)) → Joined m words → Full r → Full s → r ≡ s
  full_same r s t (none h) (none k) = refl
  full_same r s t (none h) (short q a l) = absurd (h q a)
  full_same r s t (none h) (whole q a l) = absurd (h q a)
  full_same r s t (short q a l) (none h) = absurd (h q a)
  full_same r s t (short q a l) (short q' a' l') = refl
  full_same r s t (short q a l) (whole q' a' l') = absurd (omega arith)
  full_same r s t (whole q a l) (none h) = absurd (h q a)
  full_same r s t (whole q a l) (short q' a' l') = absurd (omega arith)
  full_same r s t (whole q a l) (whole q' a' l') = ap good (unique m words q q' t a a')

  outcome_same : (r s : Result (List Words)) → Filling m words room r → Filling m words room s → r ≡ s
  outcome_same r s (bad_draft why f e) (bad_draft why' f' e') = same_refusal (sym e ∙ e')
  outcome_same r s (bad_draft why f e) (no_chain rows f' t l h k) = not_draft e t
  outcome_same r s (bad_draft why f e) (none_accepted t h) = not_draft e t.draft
  outcome_same r s (bad_draft why f e) (without_room q t a l) = not_draft e t.draft
  outcome_same r s (bad_draft why f e) (accepted q t a l) = not_draft e t.draft
  outcome_same r s (no_chain rows f t l h k) (bad_draft why f' e) = not_draft e t
  outcome_same r s (no_chain rows f t l h k) (no_chain rows' f' t' l' h' k') =
      ap (refused Unjoined) (let x : f' ≤ f = lowest f f' h k' in let y : f ≤ f' = lowest f' f h' k in omega arith)
  outcome_same r s (no_chain rows f t l h k) (none_accepted u h') = off_chain f l h u
  outcome_same r s (no_chain rows f t l h k) (without_room q u a l') = off_chain f l h u
  outcome_same r s (no_chain rows f t l h k) (accepted q u a l') = off_chain f l h u
  outcome_same r s (none_accepted t h) d = full_same r s t (none h) (full s t d)
  outcome_same r s (without_room q t a l) d = full_same r s t (short q a l) (full s t d)
  outcome_same r s (accepted q t a l) d = full_same r s t (whole q a l) (full s t d)

-- the call's answer and words are those of any outcome
module _ (m : ℕ) (words old : List ℕ) (said : Answer) (left : List ℕ) (d : Filled m words old said left) where
  as_outcome : (r : Result (List Words)) → Filling m words (length old) r → (said ≡ answer length r) × (left ≡ leaves joined r old)
  as_outcome r f =
      let e : d.outcome ≡ r = outcome_same m words (length old) d.outcome r d.comes f in
      (d.answered ∙ ap (answer length) e, d.stored ∙ ap (λ (x : Result (List Words)). leaves joined x old) e)

returned : (m : ℕ) (words old : List ℕ) (said : Answer) (left : List ℕ) (rates : ℕ → Rate) → Filled m words old said left → Joined m words
    → Accepted m words rates → row_size * m ≤ length old → (said ≡ success m) × (left ≡ over (joined (filled m words rates)) old)
returned m words old said left rates d t a l =
    let x = as_outcome m words old said left d (good (filled m words rates)) (accepted rates t a l) in
    (x.0 ∙ ap success (filled_count m words rates), x.1)

none_said : (m : ℕ) (words old : List ℕ) (said : Answer) (left : List ℕ) → Filled m words old said left → Joined m words
    → ((rates : ℕ → Rate) → Accepted m words rates → ⊥) → said ≡ refusal ClocksDiffer 0
none_said m words old said left d t h = (as_outcome m words old said left d (refused ClocksDiffer 0) (none_accepted t h)).0

only_then : (m : ℕ) (words old : List ℕ) (said : Answer) (left : List ℕ) → Filled m words old said left → Joined m words
    → said ≡ refusal ClocksDiffer 0 → (rates : ℕ → Rate) → Accepted m words rates → ⊥
only_then m words old said left d t e = go d.outcome (full m words (length old) d.outcome t d.comes) (sym d.answered ∙ e)
  where
    go : (r : Result (List Words)) → Full m words (length old) r → answer length r ≡ refusal ClocksDiffer 0 → (rates : ℕ → Rate) → Accepted m words rates → ⊥
    go r (none h) e = h
    go r (short q a l) e = let z : ◌≡◌ {A = ℕ} 10 21 = ap (λ (x : Answer). x.number) e in absurd (omega arith)
    go r (whole q a l) e = let z : ◌≡◌ {A = ℕ} 0 21 = ap (λ (x : Answer). x.number) e in absurd (omega arith)

determined : (m : ℕ) (words old : List ℕ) (said said' : Answer) (left left' : List ℕ) → Filled m words old said left → Filled m words old said' left'
    → (said ≡ said') × (left ≡ left')
determined m words old said said' left left' d d' =
    let x = as_outcome m words old said left d d'.outcome d'.comes in
    (x.0 ∙ sym d'.answered, x.1 ∙ sym d'.stored)

pub given : Given
given = record { unique = unique; returned = returned; none = none_said; only_then = only_then; determined = determined }

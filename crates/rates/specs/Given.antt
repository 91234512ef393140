-- Wish 7, over what a caller sees: the answer, and the words that the call leaves. Proved in proofs/Given.
use Rattle.std.specs.Prelude.{◌≡◌, ℕ, ◌*◌, ◌≤◌, List, length}
use Rattle.table.specs.declared.Answer.{Answer}
use Rattle.table.specs.declared.refusal.Refusal.TheVariants.{ClocksDiffer}
use Rattle.table.specs.Answers.{refusal, success, over}
use Rattle.table.specs.Rows.{row_size}
use Rattle.table.specs.Plain.{joined}
use Rattle.rates.specs.Joins.{Joined}
use Rattle.rates.specs.Fillings.{Rate, filled, Accepted, Filled}

pub record Given : Type 0 where
  -- If each flow is joined by a chain to a rated input or constant, then two different fillings are never both accepted.
  pub unique :
      (m : ℕ) (words : List ℕ) (q r : ℕ → Rate) → Joined m words → Accepted m words q → Accepted m words r → filled m words q ≡ filled m words r
  -- The call returns the accepted one, and counts its flows,
  pub returned :
      (m : ℕ) (words old : List ℕ) (said : Answer) (left : List ℕ) (rates : ℕ → Rate) → Filled m words old said left → Joined m words
      → Accepted m words rates → row_size * m ≤ length old → (said ≡ success m) × (left ≡ over (joined (filled m words rates)) old)
  -- and gives 21 with flow 0 exactly when no filling is accepted.
  pub none :
      (m : ℕ) (words old : List ℕ) (said : Answer) (left : List ℕ) → Filled m words old said left → Joined m words
      → ((rates : ℕ → Rate) → Accepted m words rates → ⊥) → said ≡ refusal ClocksDiffer 0
  pub only_then :
      (m : ℕ) (words old : List ℕ) (said : Answer) (left : List ℕ) → Filled m words old said left → Joined m words
      → said ≡ refusal ClocksDiffer 0 → (rates : ℕ → Rate) → Accepted m words rates → ⊥
  -- Answer and words are determined: what is said of them leaves nothing free.
  pub determined :
      (m : ℕ) (words old : List ℕ) (said said' : Answer) (left left' : List ℕ) → Filled m words old said left → Filled m words old said' left'
      → (said ≡ said') × (left ≡ left')

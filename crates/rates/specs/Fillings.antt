-- Fillings of a draft, and what the call that fills in rates comes to.
use Rattle.std.specs.Prelude.{◌≡◌, ℕ, ◌*◌, ◌<◌, ◌≤◌, cond, List, eqb, length}
use Rattle.table.specs.declared.Answer.{Answer}
use Rattle.table.specs.declared.refusal.Refusal.{Refusal}
use Rattle.table.specs.declared.refusal.Refusal.TheVariants.{ClocksDiffer, NoRoom, Unjoined}
use Rattle.table.specs.Answers.{Result, good, refused, answer, leaves}
use Rattle.table.specs.Rows.{Row, Words, row_size, unrated_kind}
use Rattle.table.specs.Plain.{row_words, joined, per_flow, draft_of}
use Rattle.checker.specs.Answers.{check_number}
use Rattle.rates.specs.Joins.{Chained, Joined}

pub record Rate : Type 0 where
  pub period : ℕ
  pub phase : ℕ

-- a row with a rate filled in, where it is unrated
abbrev pub filled_row : Rate → Words → Words
filled_row q w = cond (eqb w.kind unrated_kind) (record { kind = 0; one = q.period; two = q.phase; three = 0 }) w

-- A filling gives each flow a rate. The rows of a draft of m flows, so filled.
abbrev pub filled : ℕ → List ℕ → (ℕ → Rate) → List Words
filled m words rates = per_flow (λ f. filled_row (rates f) (row_words words f)) m

-- the check accepts them; a rate outside the limits of what is written it refuses with 14
abbrev pub Accepted : ℕ → List ℕ → (ℕ → Rate) → Type 0
Accepted m words rates = check_number m (joined (filled m words rates)) ≡ 0

-- WISH 7. What the call comes to where there is room for so many words: the rows of the filling that is accepted, or the refusal that comes first. A
-- draft's own refusals; 39 with the lowest flow that no chain joins to a rated one; 21 with flow 0 where no filling is accepted; 10.
pub data Filling (m : ℕ) (words : List ℕ) (room : ℕ) : Result (List Words) → Type 0 where
  bad_draft : (why : Refusal) (f : ℕ) → draft_of m words ≡ refused why f → Filling m words room (refused why f)
  no_chain :
      (rows : List Row) (f : ℕ) → draft_of m words ≡ good rows → f < m → (Chained m words f → ⊥) → ((g : ℕ) → g < f → Chained m words g)
      → Filling m words room (refused Unjoined f)
  none_accepted : Joined m words → ((rates : ℕ → Rate) → Accepted m words rates → ⊥) → Filling m words room (refused ClocksDiffer 0)
  without_room : (rates : ℕ → Rate) → Joined m words → Accepted m words rates → room < row_size * m → Filling m words room (refused NoRoom 0)
  accepted : (rates : ℕ → Rate) → Joined m words → Accepted m words rates → row_size * m ≤ room → Filling m words room (good (filled m words rates))

-- what the call answers, and leaves in the lent buffer
pub record Filled (m : ℕ) (words old : List ℕ) (said : Answer) (left : List ℕ) : Type 0 where
  pub outcome : Result (List Words)
  pub comes : Filling m words (length old) outcome
  pub answered : said ≡ answer length outcome
  pub stored : left ≡ leaves joined outcome old

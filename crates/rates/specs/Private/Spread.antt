-- How rates spread along rows.
use Rattle.std.specs.Prelude.{◌≡◌, ℕ, ◌+◌, ◌-◌, ◌*◌, ◌/◌, ◌≤◌, ◌<◌, Bool, true, false, cond, ◌&&◌, List, Option, Some, None, eqb, leb, length, get_or, set, sum_by, unwrap_or}
use Rattle.table.specs.declared.FlowFields.{FlowFields}
use Rattle.table.specs.Rows.{Row, faster, slower, later, head, tail, decode, Words, first_view}
use Rattle.table.specs.Plain.{row_words}
use Rattle.table.specs.Links.{flow_fields}
use Rattle.checker.specs.Rules.{max_derived}
use Rattle.rates.specs.Joins.{joined_by, rated}
use Rattle.rates.specs.declared.steps.Rate.{Rate}
use Rattle.rates.specs.Fillings as fillings

-- a rate of the code, as a filling has it
abbrev pub rate_of : Rate → fillings.Rate
rate_of q = record { period = q.period; phase = q.phase }

-- a rate that no flow has
abbrev pub no_rate : Rate
no_rate = record { period = 0; phase = 0 }

-- a rate, where the test is passed and an accepted clock may have it
abbrev pub given : Bool → ℕ → ℕ → Rate
given test n p = cond (test && (leb 1 n && (leb n max_derived && leb p max_derived))) (record { period = n; phase = p }) no_rate

-- from the rate of a flow with which a row joins its result to that of the result: along most rows it stays
abbrev pub rise : Row → Rate → Rate
rise (faster a k g) q = given (eqb q.period (k * g)) g q.phase
rise (slower a k) q = given true (k * q.period) q.phase
rise (later a d) q = given true q.period (q.phase + d)
rise (head a v s) q = given (eqb q.phase (s + q.period)) q.period s
rise (tail a) q = given true q.period (q.phase + q.period)
rise r q = q

-- and back: a result's period that k does not divide has no operand, as has a phase that would be below 0
abbrev pub fall : Row → Rate → Rate
fall (faster a k g) q = given (eqb q.period g) (k * g) q.phase
fall (slower a k) q = given (eqb (k * (q.period / k)) q.period) (q.period / k) q.phase
fall (later a d) q = given (leb d q.phase) q.period (q.phase - d)
fall (head a v s) q = given (eqb q.phase s) q.period (s + q.period)
fall (tail a) q = given (leb q.period q.phase) q.period (q.phase - q.period)
fall r q = q

-- the row that four words make
abbrev pub row_made : Words → Row
row_made w = decode w.kind w.one w.two w.three

-- the rate that a rated row has written: the first two fields of an input, the last two of a constant
abbrev pub written : Words → Rate
written w = cond (eqb w.kind 0) (given true w.one w.two) (given true w.two w.three)

-- the rate that a row has at the start: a rated one's
abbrev pub begun : Words → Option Rate
begun w = cond (rated w) (Some (written w)) None

-- what is known of the flows' rates; the filling that they are
abbrev pub rate_at : List (Option Rate) → ℕ → Option Rate
rate_at st f = get_or st f None

abbrev pub rates_in : List (Option Rate) → ℕ → fillings.Rate
rates_in st f = rate_of (unwrap_or (rate_at st f) no_rate)

abbrev pub Known : List (Option Rate) → ℕ → Type 0
Known st f = (q : Rate) × (rate_at st f ≡ Some q)

-- a rate that spreading gives a flow
pub data Derived (m : ℕ) (words : List ℕ) : ℕ → Rate → Type 0 where
  of_rated : {f : ℕ} → f < m → rated (row_words words f) ≡ true → Derived m words f (written (row_words words f))
  of_operand :
      {f d : ℕ} {q : Rate} → f < m → joined_by words f d ≡ true → Derived m words d q → Derived m words f (rise (row_made (row_words words f)) q)
  of_result :
      {f d : ℕ} {q : Rate} → f < m → joined_by words f d ≡ true → Derived m words f q → Derived m words d (fall (row_made (row_words words f)) q)

-- every rate that is known was derived
abbrev pub Spread : ℕ → List ℕ → List (Option Rate) → Type 0
Spread m words st = (f : ℕ) (q : Rate) → rate_at st f ≡ Some q → Derived m words f q

-- the rates of the rated flows below n are known
abbrev pub Started : ℕ → List ℕ → List (Option Rate) → Type 0
Started n words st = (f : ℕ) → f < n → rated (row_words words f) ≡ true → Known st f

-- of both flows the rate is known, or of neither
abbrev pub Even : List (Option Rate) → ℕ → ℕ → Type 0
Even st f a = (Known st f → Known st a) × (Known st a → Known st f)

-- in row f nothing is left to spread
abbrev pub ClosedAt : List ℕ → List (Option Rate) → ℕ → Type 0
ClosedAt words st f = (d : ℕ) → joined_by words f d ≡ true → Even st f d

abbrev pub Closed : ℕ → List ℕ → List (Option Rate) → Type 0
Closed m words st = (f : ℕ) → f < m → ClosedAt words st f

-- the fields of a kind that hold the flows with which a row joins its result: all that hold flows, of a view the first only
abbrev pub join_fields : ℕ → FlowFields
join_fields n = cond (leb first_view n) (record { one = (flow_fields n).one; two = false; three = false }) (flow_fields n)

-- how many flows have no known rate
abbrev pub missing : Option Rate → ℕ
missing None = 1
missing (Some q) = 0

abbrev pub unknown : List (Option Rate) → ℕ
unknown st = sum_by missing st

-- one step between the result of row f and flow a, where the test is passed: whether it adds a rate, and what is known after it
pub data Stepped (on : Bool) (r : Row) (f a : ℕ) (st : List (Option Rate)) : Bool → List (Option Rate) → Type 0 where
  still : (on ≡ true → Even st f a) → Stepped on r f a st false st
  risen : {q : Rate} → on ≡ true → rate_at st f ≡ None → rate_at st a ≡ Some q → Stepped on r f a st true (set st f (Some (rise r q)))
  fallen : {q : Rate} → on ≡ true → rate_at st a ≡ None → rate_at st f ≡ Some q → Stepped on r f a st true (set st a (Some (fall r q)))

-- steps along rows, and whether they added rates; where they added none, what they were to end has ended
pub record Passed (m : ℕ) (words : List ℕ) (Ended : Type 0) (st st' : List (Option Rate)) (news : Bool) : Type 0 where
  pub size : length st' ≡ length st
  pub spread : Spread m words st → Spread m words st'
  pub kept : (f : ℕ) → Known st f → Known st' f
  pub fewer : unknown st' + cond news 1 0 ≤ unknown st
  pub still : news ≡ false → (st' ≡ st) × Ended

-- the rates of the rated flows before f are known
pub record Starting (m : ℕ) (words : List ℕ) (f : ℕ) (st : List (Option Rate)) : Type 0 where
  pub spread : Spread m words st
  pub started : Started f words st

-- nothing is left to spread
pub record Settled (m : ℕ) (words : List ℕ) (st : List (Option Rate)) : Type 0 where
  pub spread : Spread m words st
  pub started : Started m words st
  pub closed : Closed m words st

-- flow f is the lowest of n whose rate is not known
pub record LowestUnknown (n : ℕ) (st : List (Option Rate)) (f : ℕ) : Type 0 where
  pub within : f < n
  pub there : rate_at st f ≡ None
  pub below : (g : ℕ) → g < f → Known st g

-- A clock as the check keeps it, and each row's rule over such clocks. The laws of proofs/ join them to the paper's clocks and rules.
use Rattle.std.specs.Prelude.{ℕ, ◌+◌, ◌*◌, ◌/◌, ◌%◌, ◌≡◌, Bool, true, false, cond, ◌&&◌, ◌||◌, List, [], ◌∷◌, ◌++◌, map, length, get_or, set, take, eqb, leb, ltb, Option, Some, None, Ok, Err}
use Rattle.std.specs.Prelude.{Result as Outcome}
use Rattle.std.specs.Cmp.Lexicographic.{pointwise}
use Rattle.std.proofs.Math.Option as maybe
use Rattle.table.specs.declared.refusal.Refusal.{Refusal}
use Rattle.table.specs.declared.refusal.Refusal.TheVariants.{UnknownKind, ClocksDiffer, BeyondLimits, NotPlain, BadView}
use Rattle.table.specs.Answers.{Result, good}
use Rattle.table.specs.Bits.{bit}
use Rattle.table.specs.Rows.{Row, kind_count, decode, Words, max_flows, max_field}
use Rattle.table.specs.Rows as rows
use Rattle.table.specs.Plain.{table_of, rows_in}
use Rattle.checker.specs.Answers.{condition_word, four_words}
use Rattle.checker.specs.Clocks.{Condition, Clock}
use Rattle.checker.specs.Rules.{AllWithin, max_derived, max_conditions, multiple}
use Rattle.checker.specs.declared.Clock.{Clock as Kept}

-- a condition as one word: its view period stands above flow and truth, which are below this
abbrev pub view_unit : ℕ
view_unit = 2 * max_flows

abbrev pub kept_word : Condition → ℕ
kept_word c = condition_word c + view_unit * c.view

-- a clock as it is kept: four words, unused ones 0
abbrev pub kept : Clock → Kept
kept k = record {
  period = k.period;
  phase = k.phase;
  count = length k.conditions;
  conditions = four_words kept_word k.conditions;
}

abbrev pub every : ℕ → ℕ → Kept
every n p = record { period = n; phase = p; count = 0; conditions = 0 ∷ 0 ∷ 0 ∷ 0 ∷ [] }

-- the clock of a flow among those kept; flows are below the divisor
abbrev pub kept_at : List Kept → ℕ → Kept
kept_at ks f = get_or ks (f % max_flows) (every 0 0)

-- the words that are given out of a clock: view periods apart from flows and truths
abbrev pub given : Kept → List ℕ
given k =
    k.period ∷ k.phase ∷ k.count
    ∷ (map (λ (x : ℕ). x % view_unit) k.conditions ++ map (λ (x : ℕ). x / view_unit) k.conditions)

-- the conditions are looked at where there are any
unfoldable pub same : Kept → Kept → Bool
same a b =
    eqb a.period b.period
    && (eqb a.phase b.phase && (eqb a.count b.count && (eqb a.count 0 || pointwise eqb a.conditions b.conditions)))

-- what a row's rule comes to: its clock, or why it is refused
abbrev pub Verdict : Type 0
Verdict = Outcome Kept Refusal

-- a refusal unless the test is passed
abbrev pub guard : {A : Type 0} → Bool → Refusal → Outcome A Refusal → Outcome A Refusal
guard true why v = v
guard false why v = Err why

unfoldable pub limited : ℕ → ℕ → Verdict
limited n p = guard (leb n max_derived && leb p max_derived) BeyondLimits (Ok (every n p))

unfoldable pub under : Kept → ℕ → Verdict
under k word =
    guard (leb (k.count + 1) max_conditions) BeyondLimits
    (Ok record { period = k.period; phase = k.phase; count = k.count + 1; conditions = set k.conditions k.count word })

abbrev pub combined : Kept → Kept → Verdict
combined a b = guard (same a b) ClocksDiffer (Ok a)

abbrev pub faster : Kept → ℕ → ℕ → Verdict
faster a k g = guard (eqb a.count 0) NotPlain (guard (eqb a.period (k * g)) ClocksDiffer (Ok (every g a.phase)))

abbrev pub slower : Kept → ℕ → Verdict
slower a k = guard (eqb a.count 0) NotPlain (limited (k * a.period) a.phase)

abbrev pub later : Kept → ℕ → Verdict
later a d = guard (eqb a.count 0) NotPlain (limited a.period (a.phase + d))

abbrev pub head : Kept → ℕ → Verdict
head a s = guard (eqb a.count 0) NotPlain (guard (eqb a.phase (s + a.period)) ClocksDiffer (Ok (every a.period s)))

abbrev pub tail : Kept → Verdict
tail a = guard (eqb a.count 0) NotPlain (limited a.period (a.phase + a.period))

-- a condition's word; flow and view period are below the divisors
abbrev pub condition : ℕ → Bool → ℕ → ℕ
condition flow truth view = 2 * (flow % max_flows) + bit truth + view_unit * (view % (max_field + 1))

abbrev pub sampled : Kept → Kept → ℕ → Verdict
sampled a c word = guard (same a c) ClocksDiffer (under a word)

abbrev pub is_same : Kept → Verdict → Bool
is_same a (Ok k) = same a k
is_same a (Err why) = false

abbrev pub extends : Kept → Kept → ℕ → Bool
extends a c word = is_same a (under c word)

abbrev pub merged : ℕ → Kept → Kept → Kept → Verdict
merged flow c a b =
    guard (extends a c (condition flow true 0) && extends b c (condition flow false 0)) ClocksDiffer (Ok c)

abbrev pub viewed : Kept → Kept → ℕ → ℕ → Verdict
viewed a c w word =
    guard (eqb a.count 0) NotPlain (guard (eqb c.count 0) NotPlain
    (guard (multiple a.period w && (multiple c.period w && leb c.phase a.phase)) BadView (under a word)))

-- a row's rule; h has the clocks of the flows before
unfoldable pub rule_of : (ℕ → Kept) → Row → Verdict
rule_of h (rows.input n p) = Ok (every n p)
rule_of h (rows.constant v n p) = Ok (every n p)
rule_of h (rows.combine op a b) = combined (h a) (h b)
rule_of h (rows.register v b a) = Ok (h b)
rule_of h (rows.faster a k g) = faster (h a) k g
rule_of h (rows.slower a k) = slower (h a) k
rule_of h (rows.later a d) = later (h a) d
rule_of h (rows.head a v s) = head (h a) s
rule_of h (rows.tail a) = tail (h a)
rule_of h (rows.sample u a c) = sampled (h a) (h c) (condition c u 0)
rule_of h (rows.merge c a b) = merged c (h c) (h a) (h b)
rule_of h rows.unrated = Err UnknownKind
rule_of h (rows.view u a c w) = viewed (h a) (h c) w (condition c u w)

-- the same by its kind and fields; a number that is no kind is refused
unfoldable pub rule : (ℕ → Kept) → ℕ → ℕ → ℕ → ℕ → Verdict
rule h kind p q r = cond (ltb kind kind_count) (rule_of h (decode kind p q r)) (Err UnknownKind)

-- a register's test over the clocks kept: beat b, source a
abbrev pub fits_in : List Kept → ℕ → ℕ → Bool
fits_in ks b a = same (kept_at ks a) (kept_at ks b)

-- the same of a row by its four words
abbrev pub source_in : List Kept → Words → Bool
source_in ks w = cond (eqb w.kind 7) (fits_in ks w.two w.three) true

-- the code's option as the one of table's definitions
abbrev pub place : Option ℕ → maybe.Option ℕ
place (Some f) = maybe.some f
place None = maybe.none

-- the rows of a table that is good
abbrev pub rows_of : ℕ → List ℕ → List Row
rows_of m words = rows_in (table_of m words)

-- clocks that were found are kept, the first ones, and are within the limits
abbrev pub Assigned : Result (List Clock) → List Kept → Type 0
Assigned r new = (ks : List Clock) → r ≡ good ks → (take (length ks) new ≡ map kept ks) × AllWithin ks

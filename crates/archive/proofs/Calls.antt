-- What the calls answer and leave, from the tests that they pass. Assumes nothing.
use mathlib.Core.Path.{◌≡◌, refl, sym, ◌∙◌, ap, ap₂, subst}
use Prim.Native.Nat.{ℕ, zero, suc, ◌+◌, ◌*◌, ◌≤◌, ◌<◌}
use native.Mathlib.Nat.{add-zero, zero-add}
use native.Mathlib.Decide.{dec_lt}
use native.Mathlib.Omega.{arith}
use mathlib.Core.Bool.{Bool, true, false, ◌&&◌, not}
use mathlib.Core.List.{List, [], ◌∷◌, ◌++◌}
use lib.ListN.{length, get_or}
use lib.Seq.{ext_get_or, get_or-drop}
use borrow.Author.Tests.{le-leb, lt-leb, leb-true}
use Rattle.table.specs.declared.Answer.{Answer}
use Rattle.table.specs.declared.refusal.Refusal.TheVariants.{TooManyTicks, HasConditions, WrongLength, OffCalendar}
use Rattle.std.specs.Prelude.{Err}
use Rattle.std.specs.List.{list_all, range_with_len}
use Rattle.std.proofs.lemmas.List.Folds.{list_all-append}
use Rattle.table.specs.declared.refusal.Refused.{Refused}
use Rattle.table.specs.Answers.{good, refused, leaves, answer, success, refusal, parts}
use Rattle.table.specs.Rows.{Row, row_size, max_flows}
use Rattle.table.specs.Plain.{per_flow, row_words, table_of}
use Rattle.table.proofs.AnswerLaws.{told_err}
use Rattle.table.proofs.Tests.{and_false, then_good, unless_good}
use Rattle.table.proofs.PlainRows.{per_length, per_entry}
use Rattle.table.proofs.Tables.{table_made}
use Rattle.checker.specs.Clocks.{Clock, every}
use Rattle.checker.specs.Rules.{clock_at, clocks_of}
use Rattle.checker.specs.Answers.{clock_size, checking, check_answer, clocks_for}
use Rattle.checker.proofs.ClockLaws.{plain_empty}
use Rattle.checker.proofs.CheckLaws.{AllSane}
use Rattle.checker.proofs.Bounds.{check_whole, accepted_sane, Told, told, told_word}
use Rattle.semantics.specs.Answers.{max_ticks}
use Rattle.calendar.specs.Calendar.{samples, free}
use Rattle.calendar.proofs.PlainRuns.{plain_clocks}
use Rattle.archive.specs.Traces.{words_before, stored_of, trace_fits, restored_mark, restored_value, cells_of}
use Rattle.archive.specs.Answers.{archiving, lengths_fit, stored_by, storing, store_answer, stored_after, restored_by, restoring, Restored}
use Rattle.archive.specs.declared.plan.Plan.{Plan}
use Rattle.archive.specs.Private.Steps.{clock_in, clocks_in, Sound}
use Rattle.archive.specs.Private.Plans.{clocks_of as plan_clocks, Opens, Refuses}
use Rattle.archive.proofs.Traces.{cells_length, stored_length}
use Rattle.archive.proofs.RoundTrip.{Lengths, lengths_fit_lem, all_over}

-- ROWS without conditions, by the kinds as the code reads them
pub kind_at_lem : (f : ℕ) (words : List ℕ) → (row_words words f).kind ≡ get_or words (row_size * f) 0
kind_at_lem f words = get_or-drop (row_size * f) words 0 0 ∙ ap (λ (i : ℕ). get_or words i 0) (add-zero (row_size * f))

-- a range of one number more
range_end : (a n : ℕ) → range_with_len a (suc n) ≡ range_with_len a n ++ ((a + n) ∷ [])
range_end a zero = ap (λ (i : ℕ). i ∷ []) (sym (add-zero a))
range_end a (suc n) = ap (λ (l : List ℕ). a ∷ l) (range_end (a + 1) n ∙ ap (λ (i : ℕ). range_with_len (a + 1) n ++ (i ∷ [])) (omega arith))

and_true : (b : Bool) → (b && true) ≡ b
and_true true = refl
and_true false = refl

pub free_is : (words : List ℕ) (m : ℕ) → list_all (λ (f : ℕ). not (samples (get_or words (row_size * f) 0))) (range_with_len 0 m) ≡ free m words
unfolding free
free_is words zero = refl
free_is words (suc m) =
    ap (list_all conditionless) (range_end 0 m)
    ∙ list_all-append conditionless (range_with_len 0 m) ((0 + m) ∷ [])
    ∙ ap₂ (λ (x y : Bool). x && y) (free_is words m) (and_true _ ∙ ap conditionless (zero-add m) ∙ ap (λ (k : ℕ). not (samples k)) (sym (kind_at_lem m words)))
  where
    conditionless : ℕ → Bool
    conditionless f = not (samples (get_or words (row_size * f) 0))

-- one row that has them is enough
pub free_not : (f : ℕ) (words : List ℕ) → samples (row_words words f).kind ≡ true → (m : ℕ) → f < m → free m words ≡ false
unfolding free
free_not f words s zero l = absurd (omega arith)
free_not f words s (suc m) l =
    elim (dec_lt f m) [
      | yes y ↦ ap (λ (b : Bool). b && not (samples (row_words words m).kind)) (free_not f words s m y)
      | no y ↦ let q : f ≡ m = omega arith in
          ap (λ (b : Bool). free m words && not b) (subst (λ (i : ℕ). samples (row_words words i).kind ≡ true) q s) ∙ and_false (free m words)
    ]

-- THE PLAN
few_ticks : (m : ℕ) (words : List ℕ) (ticks : ℕ) (ks : List Clock) → archiving m words ticks ≡ good ks → ticks ≤ max_ticks
unfolding archiving
few_ticks m words ticks ks e = let c = then_good (clocks_for m words) _ ks e in leb-true ticks max_ticks (unless_good _ TooManyTicks 0 _ ks c.2).0

-- the check's refusal is handed on
pub plan_refused : (m : ℕ) (words : List ℕ) (room ticks : ℕ) → clock_size * max_flows ≤ room → (r : Refused) → parts (Err r) ≡ check_answer m words room → Refuses m words ticks r
unfolding archiving
plan_refused m words room ticks l r e =
    let o = told_err length (checking m words room) r e in
    let found : clocks_for m words ≡ refused r.why r.flow = sym (check_whole m words room l) ∙ o.0 in
    record { found = rw found; eq = o.1 }

module _ {m n : ℕ} {words zeros clocks : List ℕ} (T : Told m words zeros clocks (success n)) (ticks : ℕ) where
  abbrev ks : List Clock
  ks = (told T refl).0

  clocked : (rows : List Row) × (table_of m words ≡ good rows) × (clocks_of rows ≡ good ks)
  clocked = then_good (table_of m words) clocks_of ks (told T refl).2

  accepted : (length ks ≡ m) × (m ≤ max_flows) × AllSane (clock_at ks) m
  accepted = accepted_sane m words clocked.0 ks clocked.1 clocked.2

  pub plan_rows : (m ≤ max_flows) × (row_size * m ≤ length words)
  plan_rows = (accepted.1, omega (arith, (table_made m words clocked.0 clocked.1).words_size))

  pub plan_long : max_ticks < ticks → archiving m words ticks ≡ refused TooManyTicks 0
  unfolding archiving
  plan_long l = rw ((told T refl).2, lt-leb ticks max_ticks l)

  pub plan_conditional : ticks ≤ max_ticks → free m words ≡ false → archiving m words ticks ≡ refused HasConditions 0
  unfolding archiving
  plan_conditional l u = rw ((told T refl).2, le-leb ticks max_ticks l, u)

  pub plan_sound : clock_size * max_flows ≤ length clocks → Sound m clocks
  plan_sound room =
      record {
        few = accepted.1;
        room = omega (arith, accepted.1);
        positive = λ f l. omega (arith, told_word T refl f 0 l (omega arith), (accepted.2 f l).positive);
        period_fits = λ f l. omega (arith, told_word T refl f 0 l (omega arith), (accepted.2 f l).period_fits);
      }

  -- the clocks are held whole, since they have no conditions
  held : free m words ≡ true → clocks_in m clocks ≡ ks
  unfolding clocks_in
  held u =
      ext_get_or (every 1 0) (per_flow (clock_in clocks) m) ks (per_length (clock_in clocks) m ∙ sym accepted.0) λ f x.
      let l : f < m = omega (arith, per_length (clock_in clocks) m) in
      per_entry (clock_in clocks) (every 1 0) m f l
      ∙ is (clock_at ks f) (told_word T refl f 0 l (omega arith)) (told_word T refl f 1 l (omega arith))
      (plain_empty (clock_at ks f) (plain_clocks m words clocked.0 ks clocked.1 clocked.2 u f l))
    where
      is : {n p : ℕ} (k : Clock) → n ≡ k.period → p ≡ k.phase → k.conditions ≡ [] → every n p ≡ k
      is k a b c = λ i. record { period = a i; phase = b i; conditions = sym c i }

  pub plan_open : ticks ≤ max_ticks → free m words ≡ true → archiving m words ticks ≡ good (clocks_in m clocks)
  unfolding archiving
  plan_open l u = rw ((told T refl).2, le-leb ticks max_ticks l, u) (ap good (sym (held u)))

-- A REFUSAL, which leaves the buffers as they were
module _ {m : ℕ} {words : List ℕ} {ticks : ℕ} {r : Refused} (h : Refuses m words ticks r) where
  pub store_refused : (marks values stored : List ℕ)
      → (parts (Err r) ≡ store_answer m words ticks marks values (length stored)) × (stored ≡ stored_after m words ticks marks values stored)
  unfolding storing
  store_refused marks values stored = rw h.found (ap (λ (x : Refused). parts (Err x)) h.eq, refl)

  pub restore_refused : (stored marks values : List ℕ)
      → Restored m ticks (restoring m words ticks (length stored) (length marks) (length values)) stored marks values marks values (parts (Err r))
  unfolding restoring
  restore_refused stored marks values = rw h.found record { answered = ap (λ (x : Refused). parts (Err x)) h.eq; marked = refl; valued = refl }

-- STORING AND RESTORING by clocks: lengths that differ, a trace that is not as they say, and the rest
module _ (m ticks : ℕ) (ks : List Clock) where
  module _ (marks values stored : List ℕ) where
    abbrev Stored : Answer → List ℕ → Type 0
    Stored r new =
        (r ≡ answer length (stored_by m ticks marks values (length stored) ks))
        × (new ≡ leaves (λ (l : List ℕ). l) (stored_by m ticks marks values (length stored) ks) stored)

    pub store_wrong : lengths_fit m ticks ks (length marks) (length values) (length stored) ≡ false → Stored (refusal WrongLength 0) stored
    unfolding stored_by
    store_wrong e = rw e (refl, refl)

    module _ (l : Lengths m ticks ks (length marks) (length values) (length stored)) where
      pub store_off : trace_fits ks m marks values ticks m ≡ false → Stored (refusal OffCalendar 0) stored
      unfolding stored_by
      store_off f = rw (lengths_fit_lem l, f) (refl, refl)

      pub store_done : trace_fits ks m marks values ticks m ≡ true → (new : List ℕ) → new ≡ stored_of ks m values ticks m → Stored (success (words_before ks ticks m)) new
      unfolding stored_by
      store_done f new x =
          rw (lengths_fit_lem l, f) (
            ap success (sym (stored_length ks m values ticks m)),
            x ∙ sym (all_over (stored_of ks m values ticks m) stored (omega (arith, stored_length ks m values ticks m, l.stored_size))),
          )

  module _ (stored marks values : List ℕ) where
    abbrev Back : List ℕ → List ℕ → Answer → Type 0
    Back = Restored m ticks (restored_by m ticks (length stored) (length marks) (length values) ks) stored marks values

    pub restore_wrong : lengths_fit m ticks ks (length marks) (length values) (length stored) ≡ false → Back marks values (refusal WrongLength 0)
    unfolding restored_by
    restore_wrong e = rw e record { answered = refl; marked = refl; valued = refl }

    pub restore_done : Lengths m ticks ks (length marks) (length values) (length stored) → (ms vs : List ℕ) → ms ≡ cells_of m (restored_mark ks) ticks
        → vs ≡ cells_of m (restored_value ks ticks stored) ticks → Back ms vs (success (ticks * m))
    unfolding restored_by
    restore_done l ms vs x y =
        rw (lengths_fit_lem l)
        record {
          answered = refl;
          marked = x ∙ sym (all_over (cells_of m (restored_mark ks) ticks) marks (omega (arith, cells_length m (restored_mark ks) ticks, l.marks_size)));
          valued = y ∙ sym (all_over (cells_of m (restored_value ks ticks stored) ticks) values (omega (arith, cells_length m (restored_value ks ticks stored) ticks, l.values_size)));
        }

-- what a plan's clocks count, store and restore is what the calls do
module _ {m : ℕ} {words : List ℕ} {ticks : ℕ} {p : Plan} (h : Opens m words ticks p) where
  pub plan_stored : (r : Answer) (marks values stored new : List ℕ) → Stored p.flows p.ticks (plan_clocks p) marks values stored r new
      → (r ≡ store_answer m words ticks marks values (length stored)) × (new ≡ stored_after m words ticks marks values stored)
  unfolding storing
  plan_stored r marks values stored new s = rw (h.eq, ← h.flows, ← h.ticks_are) s

  pub plan_restored : (r : Answer) (stored marks values ms vs : List ℕ) → Back p.flows p.ticks (plan_clocks p) stored marks values ms vs r
      → Restored m ticks (restoring m words ticks (length stored) (length marks) (length values)) stored marks values ms vs r
  unfolding restoring
  plan_restored r stored marks values ms vs s = rw (h.eq, ← h.flows, ← h.ticks_are) s

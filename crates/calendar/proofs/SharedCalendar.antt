-- Check and run share one calendar. Assumes nothing.
use mathlib.Core.Path.{◌≡◌, refl, ◌∙◌, ap, subst}
use mathlib.Core.Logic.{◌↔◌, inl, inr}
use Prim.Native.Nat.{ℕ, ◌+◌, ◌*◌, ◌≤◌, ◌<◌}
use native.Mathlib.Nat.{mul-le-mul_right}
use native.Mathlib.Omega.{arith}
use mathlib.Core.Bool.{Bool, true, false, ◌&&◌}
use mathlib.Core.List.{List, map}
use lib.ListN.{length, drop}
use lib.Dec.{leb, eqb}
use borrow.Author.Tests.{le-leb, eq-eqb}
use Rattle.table.specs.declared.refusal.Refusal.{Refusal}
use Rattle.table.specs.declared.refusal.Refusal.TheVariants.{NoRoom, ClocksDiffer, TooManyTicks}
use Rattle.table.specs.Answers.{Result, good, refused, unless, number, over, answer}
use Rattle.table.specs.declared.refusal.Refusal.TheVariants.{WrongLog, ShortTrace}
use Rattle.table.specs.Rows.{Row}
use Rattle.table.specs.Plain.{table_of}
use Rattle.table.proofs.Tests.{good_inj, unless_good, then_good}
use Rattle.table.proofs.AnswerLaws.{no_zero, number_inj}
use Rattle.table.proofs.Lists.{Each}
use Rattle.table.proofs.Registers.{Passes}
use Rattle.table.proofs.Tables.{AllFit, table_made}
use Rattle.checker.specs.Clocks.{Clock}
use Rattle.checker.specs.Rules.{clock_at, source_fits, clocks_of}
use Rattle.checker.specs.Answers.{clock_size, clocks_words, checking, check_answer}
use Rattle.checker.proofs.CheckLaws.{Clocked, Ruled, clocks_ruled, AllSane, all_sane}
use Rattle.checker.proofs.Bounds.{accepted_rows}
use Rattle.semantics.specs.Cells.{value}
use Rattle.semantics.specs.Runs.{Ticks, inputs, Ran, done, clashed, run, cells, Regular as Wide}
use Rattle.semantics.specs.Answers.{max_ticks, running, ran_answer, mark_byte}
use Rattle.calendar.specs.Calendar.{Accepts, Asked, Ends, OnCalendar, free, Judged, judging_ticks, SharedCalendar}
use Rattle.semantics.proofs.Traces.{cells_length}
use Rattle.calendar.proofs.Accepted.{Runs, runs}
use Rattle.calendar.proofs.Unclashed.{rows_fit}
use Rattle.calendar.proofs.Unconditional.{free_rows}
use Rattle.calendar.proofs.Judged.{refused_clashes}
use Rattle.calendar.proofs.Shown.{AtTick, at_tick, written, due_shown}

-- What an accepted table has.
record Accepted (m : ℕ) (words : List ℕ) (room : ℕ) : Type 0 where
  rows : List Row
  clocks : List Clock
  table : table_of m words ≡ good rows
  size : length rows ≡ m
  clocks_size : length clocks ≡ m
  fits : AllFit (length rows) 0 rows
  clocked : Clocked (clock_at clocks) 0 rows
  sources : Each (Passes (source_fits clocks)) 0 rows
  found : checking m words room ≡ good clocks

accepted : (m : ℕ) (words : List ℕ) (room : ℕ) → (check_answer m words room).number ≡ 0 → Accepted m words room
accepted m words room e =
    let a = accepted_rows m words room e in
    let fit : AllFit (length a.0) 0 a.0 = rows_fit m words a.0 a.2 in
    let size : length a.0 ≡ m = (table_made m words a.0 a.2).size in
    let f : Ruled a.0 a.1 = clocks_ruled (length a.0) a.0 a.1 fit a.3 in
    record {
      rows = a.0;
      clocks = a.1;
      table = a.2;
      size = size;
      clocks_size = f.0 ∙ size;
      fits = fit;
      clocked = f.1;
      sources = f.2;
      found = a.4;
    }

-- where the lengths are those asked, the run is the rows'
pub asked_runs : (m : ℕ) (words : List ℕ) (rows : List Row) (log : List ℕ) (ticks : ℕ) (marks values : List ℕ) → table_of m words ≡ good rows
    → ticks ≤ max_ticks → Asked m words log ticks marks values → running m words log ticks (length marks) (length values) ≡ good (run rows log ticks)
unfolding running
asked_runs m words rows log ticks marks values e l a =
    rw (
      e,
      le-leb ticks max_ticks l,
      eq-eqb (length log) (ticks * inputs rows) (rw e at a.log_length),
      le-leb (ticks * m) (length marks) a.marks_length,
      le-leb (ticks * m) (length values) a.values_length,
    )

-- FIRST HALF
module _ (m : ℕ) (words clocks log : List ℕ) (ticks : ℕ) (marks values : List ℕ) (a : Accepted m words (length clocks))
    (r : Runs a.rows log (clock_at a.clocks) ticks) (e : running m words log ticks (length marks) (length values) ≡ good (done r.past)) where
  sane : AllSane (clock_at a.clocks) m
  sane = subst (AllSane (clock_at a.clocks)) a.size (all_sane (clock_at a.clocks) (length a.rows) a.rows a.fits a.clocked)

  wide : Wide m r.past
  wide = subst (λ (i : ℕ). Wide i r.past) a.size r.wide

  inside : (t f : ℕ) → t < ticks → f < m → t * m + f < length (cells r.past)
  inside t f x y = omega (arith, mul-le-mul_right m x, cells_length m r.past wide ∙ ap (λ (i : ℕ). i * m) r.size)

  on_calendar : OnCalendar m words clocks log ticks marks values
  on_calendar t f x y =
      let s : AtTick m r.past t = at_tick m r.past t wide (rw r.size x) in
      rw (e, a.found)
      (due_shown m (over (map mark_byte (cells r.past)) marks) (over (map value (cells r.past)) values) t s.now s.before s.size
      record {
        mark_at_lem = λ u g v z. written mark_byte (cells r.past) _ (u * m + g) (inside u g (omega arith) z) ∙ ap mark_byte (s.cell u g v z);
        value_at_lem = λ u g v z. written value (cells r.past) _ (u * m + g) (inside u g (omega arith) z) ∙ ap value (s.cell u g v z);
      }
      a.clocks (drop (length (clocks_words a.clocks)) clocks) f y a.clocks_size (sane f y) (s.keeps (clock_at a.clocks) f (r.kept f (rw a.size y))))

accepted_run : (m : ℕ) (words clocks : List ℕ) → Accepts m words clocks → (log : List ℕ) (ticks : ℕ) (marks values : List ℕ) → ticks ≤ max_ticks
    → Asked m words log ticks marks values → Ends m words log ticks marks values × OnCalendar m words clocks log ticks marks values
accepted_run m words clocks x log ticks marks values l asked = go (accepted m words (length clocks) x)
  where
    go : Accepted m words (length clocks) → Ends m words log ticks marks values × OnCalendar m words clocks log ticks marks values
    go a =
        let r : Runs a.rows log (clock_at a.clocks) ticks = runs a.rows a.clocks a.fits a.clocked a.sources log ticks in
        let e : running m words log ticks (length marks) (length values) ≡ good (done r.past) =
        asked_runs m words a.rows log ticks marks values a.table l asked ∙ ap good r.eq in
        (rw e, on_calendar m words clocks log ticks marks values a r e)

-- SECOND HALF
-- a run that answers 0 ended without a clash
ended : (ticks : ℕ) (r : Result Ran) → (ran_answer ticks r).number ≡ 0 → (past : Ticks) × (r ≡ good (done past))
ended ticks (good (done past)) e = (past, refl)
ended ticks (good (clashed t f now past)) e = absurd (let z : ◌≡◌ {A = ℕ} 34 0 = e in omega arith)
ended ticks (refused why f) e = absurd (no_zero why e)

-- a check that answers 21 past the table has refused the clocks so
differing : (b : Bool) (c : Result (List Clock)) → (answer length (unless b NoRoom 0 c)).number ≡ number ClocksDiffer → (g : ℕ) × (c ≡ refused ClocksDiffer g)
differing true (good ks) e = absurd (let z : ◌≡◌ {A = ℕ} 0 21 = e in omega arith)
differing true (refused why g) e = (g, ap (λ (w : Refusal). refused w g) (number_inj why ClocksDiffer e))
differing false c e = absurd (let z : ◌≡◌ {A = ℕ} 10 21 = e in omega arith)

module _ (m : ℕ) (words clocks : List ℕ) (unsampled : free m words ≡ true) (log marks values : List ℕ) where
  never_both : (check_answer m words (length clocks)).number ≡ number ClocksDiffer → Ends m words log judging_ticks marks values → ⊥
  unfolding running checking
  never_both e x =
      let r = ended judging_ticks (running m words log judging_ticks (length marks) (length values)) x in
      let t = then_good (table_of m words) _ (done r.0) r.1 in
      let a = unless_good (leb judging_ticks max_ticks) TooManyTicks 0 _ (done r.0) t.2 in
      let b = unless_good (eqb (length log) (judging_ticks * inputs t.0)) WrongLog 0 _ (done r.0) a.1 in
      let c = unless_good (leb (judging_ticks * m) (length marks) && leb (judging_ticks * m) (length values)) ShortTrace 0 _ (done r.0) b.1 in
      let d : (g : ℕ) × (clocks_of t.0 ≡ refused ClocksDiffer g) = differing (leb (clock_size * m) (length clocks)) (clocks_of t.0) (rw t.1 at e) in
      refused_clashes t.0 (rows_fit m words t.0 t.1) (free_rows m words t.0 t.1 unsampled) d.0 d.1 log r.0 (good_inj c.1)

one_run : (m : ℕ) (words clocks : List ℕ) → free m words ≡ true → Judged m words clocks → (log marks values : List ℕ)
    → Asked m words log judging_ticks marks values → Accepts m words clocks ↔ Ends m words log judging_ticks marks values
one_run m words clocks unsampled j log marks values asked =
    (λ x. (accepted_run m words clocks x log judging_ticks marks values (omega arith) asked).0, from j)
  where
    from : Judged m words clocks → Ends m words log judging_ticks marks values → Accepts m words clocks
    from (inl e) x = e
    from (inr e) x = absurd (never_both m words clocks unsampled log marks values e x)

-- DEMAND 3, both halves
pub shared_calendar : SharedCalendar
shared_calendar = record { accepted_runs = accepted_run; one_run_judges = one_run }

-- What a long run promises, refusal by refusal. Assumes nothing.
use Rattle.std.proofs.Common.{Ok, Err, ◌≡◌, ℕ, ◌*◌, ◌<◌, ◌≤◌, Bool, true, ◌&&◌, eqb, leb, List, [], length, sym, refl, ap, ◌∙◌, subst, arith, le-leb}
use borrow.Author.Tests.{lt-leb}
use Rattle.table.specs.declared.Answer.{Answer}
use Rattle.table.specs.declared.refusal.Refusal.{Refusal}
use Rattle.table.specs.declared.refusal.Refused.{Refused}
use Rattle.table.specs.declared.refusal.Refusal.TheVariants.{TooManyTicks, WrongLog, ShortWindow}
use Rattle.table.specs.Answers.{parts, Result, good, refused, unless, then, success, refusal, answer}
use Rattle.table.specs.Rows.{Row, max_flows}
use Rattle.table.specs.Plain.{table_of, rows_in as goodRows}
use Rattle.table.proofs.Tables.{rows_good, table_made}
use Rattle.checker.specs.Rules.{clocks_of}
use Rattle.checker.specs.Answers.{clock_size, clocks_for, checking, check_answer}
use Rattle.checker.proofs.Bounds.{accepted_rows, checked_within, told_refusal}
use Rattle.table.proofs.AnswerLaws.{told_ok}
use Rattle.semantics.specs.Runs.{inputs}
use Rattle.semantics.specs.Windows.{tally_size, Tallied}
use Rattle.semantics.proofs.Tallies.{tallied_from}
use Rattle.calendar.proofs.Unclashed.{unclashed, lag}
use Rattle.runner.specs.Long.{window_ticks, max_long_ticks, long_rows, LongRan, LongLeft, LongCalled}
use Rattle.runner.specs.Private.Ready.{rows_in, Plain, Clocked}
use Rattle.runner.specs.Private.Placed.{Nearby, Unclashed, limits, given}
use Rattle.runner.proofs.Tabled.{plain}
use Rattle.runner.proofs.Limiting.{unless_both, limits_then, not_kept, kept_all}

-- what a call leaves, by the rows that its run takes
called : (m : ℕ) (words log : List ℕ) (ticks : ℕ) (ms vs ts ms' vs' ts' : List ℕ) (r : Answer) (x : Result (List Row))
    → long_rows m words log ticks (length ms) (length vs) (length ts) ≡ x → r ≡ answer (λ (rows : List Row). ticks) x → LongLeft m log ticks x ms vs ts ms' vs' ts'
    → LongCalled m words log ticks ms vs ts ms' vs' ts' r
called m words log ticks ms vs ts ms' vs' ts' r x e a l =
    record {
      answer = a ∙ ap (answer (λ (rows : List Row). ticks)) (sym e);
      left = subst (λ (y : Result (List Row)). LongLeft m log ticks y ms vs ts ms' vs' ts') (sym e) l;
    }

-- an accepted plan does not clash
pub no_tick_clashes : (m : ℕ) (words log : List ℕ) → Plain m words → Clocked m words → Unclashed (rows_in m words) log
unfolding Clocked
no_tick_clashes m words log P K =
    record { ends = λ t. let u = unclashed m words (rows_in m words) K.0 P.rows K.1 log t in (u.0, u.1) }

-- and its views look back by no more than the difference of two phases
pub close_by : (m : ℕ) (words log : List ℕ) → Plain m words → Clocked m words → Nearby window_ticks (rows_in m words) log
unfolding Clocked
close_by m words log P K =
    let rows : List Row = rows_in m words in
    let size : length rows ≡ m = (table_made m words rows P.rows).size in
    record {
      near =
          λ t past l e.
          record { lag = λ f u a c w s r b q x y. omega (arith, (lag m words rows K.0 P.rows K.1 log t past e f u a c w (omega arith) q s r x y).1) };
    }

-- the long run of an accepted plan, behind its limits
module _ (m : ℕ) (words log : List ℕ) (ticks : ℕ) (ms vs ts : List ℕ) (P : Plain m words) (K : Clocked m words) where
  abbrev pub limited : Result (Unit {0})
  limited = limits ticks max_long_ticks (length log) (inputs (rows_in m words)) (window_ticks * m) ShortWindow (length ms) (length vs)

  -- and behind the test of its tallies
  abbrev wide : Result (List Row)
  wide = unless (leb (tally_size * m) (length ts)) ShortWindow 0 (good (rows_in m words))

  tests : long_rows m words log ticks (length ms) (length vs) (length ts) ≡ then limited (λ u. wide)
  unfolding long_rows Clocked
  tests =
      rw (P.rows, K.1)
      (ap (λ (x : Result (List Row)). unless (leb ticks max_long_ticks) TooManyTicks 0 (unless (eqb (length log) (ticks * inputs (rows_in m words))) WrongLog 0 x))
      (unless_both (leb (window_ticks * m) (length ms) && leb (window_ticks * m) (length vs)) (leb (tally_size * m) (length ts)) ShortWindow 0 (good (rows_in m words)))
      ∙ sym (limits_then ticks max_long_ticks (length log) (inputs (rows_in m words)) (window_ticks * m) ShortWindow (length ms) (length vs) wide))

  pub turned_down : (e : Refused) → Err e ≡ given limited → LongCalled m words log ticks ms vs ts ms vs ts (parts (Err e))
  turned_down e a =
      let x =
      not_kept ticks max_long_ticks (length log) (inputs (rows_in m words)) (window_ticks * m) ShortWindow (length ms) (length vs)
      (long_rows m words log ticks (length ms) (length vs) (length ts)) wide tests e a in
      called m words log ticks ms vs ts ms vs ts (parts (Err e)) (refused e.why e.flow) x.0 (ap (λ (d : Refused). parts (Err d)) x.1) (refl, refl, refl)

  -- behind limits that are kept
  module _ (u : Unit {0}) (a : Ok u ≡ given limited) where
    pub within : (long_rows m words log ticks (length ms) (length vs) (length ts) ≡ wide) × (ticks ≤ max_long_ticks)
        × (length log ≡ ticks * inputs (rows_in m words)) × (window_ticks * m ≤ length ms) × (window_ticks * m ≤ length vs)
    within =
        kept_all ticks max_long_ticks (length log) (inputs (rows_in m words)) (window_ticks * m) ShortWindow (length ms) (length vs)
        (long_rows m words log ticks (length ms) (length vs) (length ts)) wide tests u a

    pub short_tallies : (q : Answer) → q ≡ refusal ShortWindow 0 → length ts < tally_size * m → LongCalled m words log ticks ms vs ts ms vs ts q
    short_tallies q e l =
        called m words log ticks ms vs ts ms vs ts q (refused ShortWindow 0) (within.0 ∙ rw (lt-leb (tally_size * m) (length ts) l)) e (refl, refl, refl)

    pub ran : (ts₁ ms' vs' ts' : List ℕ) → tally_size * m ≤ length ts → Tallied m [] ts ts₁ → LongRan m log ticks (rows_in m words) ms vs ts₁ ms' vs' ts'
        → LongCalled m words log ticks ms vs ts ms' vs' ts' (success ticks)
    ran ts₁ ms' vs' ts' l A L =
        called m words log ticks ms vs ts ms' vs' ts' (success ticks) (good (rows_in m words)) (within.0 ∙ rw (le-leb (tally_size * m) (length ts) l)) refl
        (record { past = L.past; ran = L.ran; marks = L.marks; values = L.values; tallies = tallied_from m L.past ts ts₁ ts' A L.tallies })

-- what the check's answer tells
pub accepted : (m : ℕ) (words : List ℕ) (room : ℕ) (r : Answer) → r ≡ check_answer m words room → r.number ≡ 0 → Plain m words × Clocked m words
unfolding rows_in Clocked
accepted m words room r e z =
    let x = accepted_rows m words room (ap (λ (a : Answer). a.number) (sym e) ∙ z) in
    (plain m words (rows_good true m words x.0 x.2), (x.1, ap (λ (y : Result (List Row)). clocks_of (goodRows y)) x.2 ∙ x.3))

-- a check that accepts a plan counts its flows
pub counted : (m : ℕ) (words : List ℕ) (room n : ℕ) → parts (Ok n) ≡ check_answer m words room → n ≡ m
counted m words room n e =
    let x = told_ok length (checking m words room) n e in
    x.1.1 ∙ (checked_within m words room x.0 x.1.0).0

-- what follows on table and check
module _ (m : ℕ) (log : List ℕ) (ticks a b c : ℕ) where
  abbrev pub roomy : Bool
  roomy = leb (window_ticks * m) a && leb (window_ticks * m) b && leb (tally_size * m) c

  abbrev pub logged : List Row → Result (List Row)
  logged rows = unless (eqb (length log) (ticks * inputs rows)) WrongLog 0 (unless roomy ShortWindow 0 (good rows))

  abbrev pub behind : List Row → Result (List Row)
  behind rows = unless (leb ticks max_long_ticks) TooManyTicks 0 (logged rows)

-- the check's refusal is the long run's
down_by : (m : ℕ) (words log : List ℕ) (ticks a b c : ℕ) (why : Refusal) (f : ℕ) → clocks_for m words ≡ refused why f → long_rows m words log ticks a b c ≡ refused why f
unfolding long_rows
down_by m words log ticks a b c why f =
    go (table_of m words) (behind m log ticks a b c)
  where
    go : (y : Result (List Row)) (x : List Row → Result (List Row)) → then y clocks_of ≡ refused why f
        → (then y λ rows. then (clocks_of rows) λ clocks. x rows) ≡ refused why f
    go (refused u g) x q =
        let i : u ≡ why = cc in
        let j : g ≡ f = cc in
        cc
    go (good rows) x q = rw q

pub handed_on : (m : ℕ) (words log : List ℕ) (ticks room : ℕ) (ms vs ts : List ℕ) (r : Answer) → clock_size * max_flows ≤ room → r ≡ check_answer m words room
    → (r.number ≡ 0 → ⊥) → LongCalled m words log ticks ms vs ts ms vs ts r
handed_on m words log ticks room ms vs ts r l e z =
    let x = told_refusal m words room r l e z in
    called m words log ticks ms vs ts ms vs ts r (refused x.0 x.1) (down_by m words log ticks (length ms) (length vs) (length ts) x.0 x.1 x.2)
    x.3 (refl, refl, refl)

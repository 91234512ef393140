-- What a run promises, refusal by refusal. Assumes nothing.
use Rattle.std.proofs.Common.{Ok, Err, ◌≡◌, ℕ, ◌*◌, ◌<◌, ◌≤◌, List, map, length, sym, refl, ap, ◌∙◌, arith}
use Rattle.table.specs.declared.Answer.{Answer}
use Rattle.table.specs.declared.refusal.Refusal.{Refusal}
use Rattle.table.specs.declared.refusal.Refused.{Refused}
use Rattle.table.specs.declared.refusal.Refusal.TheVariants.{Clash, ShortTrace}
use Rattle.table.specs.Answers.{number, parts, Result, good, refused, then, success, answer, over, leaves}
use Rattle.table.specs.Rows.{Row}
use Rattle.table.specs.Plain.{table_of, rows_in as goodRows, plain_answer}
use Rattle.table.proofs.AnswerLaws.{no_zero}
use Rattle.semantics.specs.Cells.{Cell, value}
use Rattle.semantics.specs.Runs.{Ticks, inputs, Ran, done, clashed, run, cells, trace}
use Rattle.semantics.specs.Answers.{max_ticks, running, ran_answer, mark_byte}
use Rattle.runner.specs.Called.{Called}
use Rattle.runner.specs.declared.Clashed.{Clashed}
use Rattle.runner.specs.declared.carried.Held.{Held}
use Rattle.runner.specs.Private.Ready.{rows_in, Plain, Reached, clash_at}
use Rattle.runner.specs.Private.Placed.{placed, TicksEnd, limits, given}
use Rattle.runner.proofs.Tabled.{plain}
use Rattle.runner.proofs.Placing.{placed_trace, placed_clash}
use Rattle.runner.proofs.Ticking.{end_or_clash, same_clash}
use Rattle.runner.proofs.Limiting.{limits_then, not_kept, kept_all}

-- what a clash is answered with
abbrev pub clash_answer : ℕ → ℕ → Answer
clash_answer f t = record { number = number Clash; flow = f; tick = t; count = 0 }

-- what a call leaves, by what its run comes to
called :
    (m : ℕ) (words log : List ℕ) (ticks : ℕ) (ms vs ms' vs' : List ℕ) (r : Answer) (x : Result Ran)
    → running m words log ticks (length ms) (length vs) ≡ x → r ≡ ran_answer ticks x
    → ms' ≡ leaves (λ (y : Ran). map mark_byte (trace y)) x ms → vs' ≡ leaves (λ (y : Ran). map value (trace y)) x vs → Called m words log ticks ms vs ms' vs' r
called m words log ticks ms vs ms' vs' r x e a p q =
    record {
      answer = a ∙ ap (ran_answer ticks) (sym e);
      marks = p ∙ ap (λ (z : Result Ran). leaves (λ (y : Ran). map mark_byte (trace y)) z ms) (sym e);
      values = q ∙ ap (λ (z : Result Ran). leaves (λ (y : Ran). map value (trace y)) z vs) (sym e);
    }

-- the run of a table that is not refused, behind its limits
module _ (m : ℕ) (words log : List ℕ) (ticks : ℕ) (ms vs : List ℕ) (P : Plain m words) where
  abbrev pub limited : Result (Unit {0})
  limited = limits ticks max_ticks (length log) (inputs (rows_in m words)) (ticks * m) ShortTrace (length ms) (length vs)

  tests : running m words log ticks (length ms) (length vs) ≡ then limited (λ u. good (run (rows_in m words) log ticks))
  unfolding running
  tests =
      rw P.rows
      (sym (limits_then ticks max_ticks (length log) (inputs (rows_in m words)) (ticks * m) ShortTrace (length ms) (length vs) (good (run (rows_in m words) log ticks))))

  pub turned_down : (e : Refused) → Err e ≡ given limited → Called m words log ticks ms vs ms vs (parts (Err e))
  turned_down e a =
      let x =
      not_kept ticks max_ticks (length log) (inputs (rows_in m words)) (ticks * m) ShortTrace (length ms) (length vs) (running m words log ticks (length ms) (length vs))
      (good (run (rows_in m words) log ticks)) tests e a in
      called m words log ticks ms vs ms vs (parts (Err e)) (refused e.why e.flow) x.0 (ap (λ (d : Refused). parts (Err d)) x.1) refl refl

  -- behind limits that are kept
  module _ (u : Unit {0}) (a : Ok u ≡ given limited) where
    pub within : (running m words log ticks (length ms) (length vs) ≡ good (run (rows_in m words) log ticks)) × (ticks ≤ max_ticks)
        × (length log ≡ ticks * inputs (rows_in m words)) × (ticks * m ≤ length ms) × (ticks * m ≤ length vs)
    within =
        kept_all ticks max_ticks (length log) (inputs (rows_in m words)) (ticks * m) ShortTrace (length ms) (length vs) (running m words log ticks (length ms) (length vs))
        (good (run (rows_in m words) log ticks)) tests u a

    ran : (x : Ran) → run (rows_in m words) log ticks ≡ x → running m words log ticks (length ms) (length vs) ≡ good x
    ran x e = within.0 ∙ ap good e

    module _ (room : ℕ) (w : ticks ≤ room) (s : List Held) (ms' vs' : List ℕ) (end : Reached)
        (D : TicksEnd m room ticks (rows_in m words) log (run (rows_in m words) log ticks) ms vs s ms' vs' end) where
      pub ended : end ≡ Ok tt → Called m words log ticks ms vs ms' vs' (success ticks)
      ended q = go (run (rows_in m words) log ticks) refl D
        where
          go : (x : Ran) → run (rows_in m words) log ticks ≡ x → TicksEnd m room ticks (rows_in m words) log x ms vs s ms' vs' end
              → Called m words log ticks ms vs ms' vs' (success ticks)
          go (done past) e d =
              let R = d.1 in
              let p : R.past ≡ past = let y : done R.past ≡ done past = sym R.so_far ∙ e in cc in
              let all : (g : Cell → ℕ) (l l' : List ℕ) → l' ≡ placed room m g l R.past → l' ≡ over (map g (cells past)) l =
              λ g l l' y. y ∙ placed_trace room m g l R.past R.regular (omega (arith, R.ticks)) ∙ ap (λ (i : Ticks). over (map g (cells i)) l) p in
              called m words log ticks ms vs ms' vs' (success ticks) (good (done past)) (ran (done past) e) refl
              (all mark_byte ms ms' R.marks) (all value vs vs' R.values)
          go (clashed t f now past) e d = end_or_clash (sym q ∙ d.0)

      pub stopped : (t f : ℕ) → end ≡ Err (clash_at t f) → Called m words log ticks ms vs ms' vs' (clash_answer f t) × (f < m)
      stopped t f q = go (run (rows_in m words) log ticks) refl D
        where
          go : (x : Ran) → run (rows_in m words) log ticks ≡ x → TicksEnd m room ticks (rows_in m words) log x ms vs s ms' vs' end
              → Called m words log ticks ms vs ms' vs' (clash_answer f t) × (f < m)
          go (done past) e d = end_or_clash (sym d.0 ∙ q)
          go (clashed u g now past) e d =
              let same = same_clash (sym q ∙ d.0) in
              let C = d.1 in (
                called m words log ticks ms vs ms' vs' (clash_answer f t) (good (clashed u g now past)) (ran (clashed u g now past) e)
                    (ap (λ (x : Clashed). clash_answer x.flow x.tick) same) (C.marks ∙ placed_clash room m mark_byte ms now past C.regular (omega (arith, C.few)))
                    (C.values ∙ placed_clash room m value vs now past C.regular (omega (arith, C.few))),
                omega (arith, C.flow, ap (λ (x : Clashed). x.flow) same),
              )

pub accepted : (m : ℕ) (words : List ℕ) (r : Answer) → r ≡ plain_answer m words → r.number ≡ 0 → Plain m words
unfolding rows_in
accepted m words r e z = plain m words (go (table_of m words) refl (ap (λ (a : Answer). a.number) (sym e) ∙ z))
  where
    go : (x : Result (List Row)) → table_of m words ≡ x → (answer length x).number ≡ 0 → table_of m words ≡ good (goodRows (table_of m words))
    go (good rows) q n = q ∙ ap good (sym (ap goodRows q))
    go (refused why f) q n = absurd (no_zero why n)

down_by : (m : ℕ) (words log : List ℕ) (ticks a b : ℕ) (why : Refusal) (f : ℕ) → table_of m words ≡ refused why f → running m words log ticks a b ≡ refused why f
unfolding running
down_by m words log ticks a b why f q = rw (q)

pub handed_on : (m : ℕ) (words log : List ℕ) (ticks : ℕ) (ms vs : List ℕ) (r : Answer) → r ≡ plain_answer m words → (r.number ≡ 0 → ⊥) → Called m words log ticks ms vs ms vs r
handed_on m words log ticks ms vs r e z = go (table_of m words) refl (e)
  where
    down : (why : Refusal) (f : ℕ) → table_of m words ≡ refused why f → running m words log ticks (length ms) (length vs) ≡ refused why f
    down why f q = down_by m words log ticks (length ms) (length vs) why f q

    go : (x : Result (List Row)) → table_of m words ≡ x → r ≡ answer length (table_of m words) → Called m words log ticks ms vs ms vs r
    go (good rows) q a = absurd (z (ap (λ (b : Answer). b.number) (a ∙ ap (answer length) q)))
    go (refused why f) q a =
        called m words log ticks ms vs ms vs r (refused why f) (down why f q) (a ∙ ap (answer length) q) refl refl

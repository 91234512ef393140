-- The loop over the ticks: how a turn keeps its invariant, and how it ends. Assumes nothing.
use Rattle.std.proofs.Common.{Ok, Err, ◌≡◌, ℕ, zero, suc, ◌+◌, ◌-◌, ◌^◌, ◌<◌, ◌≤◌, List, [], ◌∷◌, map, length, sym, refl, ap, ◌∙◌, subst, zero-add, add-one, arith}
use Rattle.table.specs.Rows.{Row}
use Rattle.semantics.specs.Cells.{Cell, value}
use Rattle.semantics.specs.Runs.{Tick, Ticks, TickEnd, filled, stopped, tick_of, Ran, done, clashed, on_tick, on_run, run}
use Rattle.semantics.specs.Answers.{mark_byte}
use Rattle.runner.specs.declared.carried.Held.{Held}
use Rattle.runner.specs.Private.Ready.{AllCarry, Ticked, Reached, clash_at}
use Rattle.runner.specs.Private.Placed.{first_cell, Fitting, splice, placed, Recalls, Near, Nearby, WroteAt, TickAt, Running, TicksEnd, Unclashed}
use Rattle.runner.proofs.Ticking.{end_or_clash, same_clash}
use Rattle.runner.proofs.Recalling.{recalls}

-- a run that clashed stays as it is
stays : (rows : List Row) (log : List ℕ) (k t f : ℕ) (now : Tick) (past : Ticks) (i : ℕ) → run rows log k ≡ clashed t f now past
    → run rows log (i + k) ≡ clashed t f now past
unfolding run
stays rows log k t f now past zero e = ap (run rows log) (zero-add k) ∙ e
stays rows log k t f now past (suc i) e =
    ap (run rows log) (let z : suc i + k ≡ suc (i + k) = omega arith in z)
    ∙ ap (λ (x : Ran). on_run x (λ old. on_tick (i + k) old (tick_of rows log old))) (stays rows log k t f now past i e)

-- one tick more at its place
one_more : (room n t : ℕ) (g : Cell → ℕ) (l₀ l l' : List ℕ) (past : Ticks) (now : Tick) → length past ≡ t → l ≡ placed room n g l₀ past
    → l' ≡ splice (first_cell room n t) (map g now) l → l' ≡ placed room n g l₀ (now ∷ past)
unfolding placed
one_more room n t g l₀ l l' past now z e q =
    q
    ∙ ap (λ (i : ℕ). splice (first_cell room n i) (map g now) l) (sym z)
    ∙ ap (λ (y : List ℕ). splice (first_cell room n (length past)) (map g now) y) e

module _ {n room : ℕ} {rows : List Row} {log ms₀ vs₀ : List ℕ} where
  unfoldable pub starts : {s : List Held} → AllCarry rows 0 [] s → Running n room 0 rows log ms₀ vs₀ s ms₀ vs₀
  unfolding run placed
  starts C =
      record { past = []; ticks = refl; so_far = refl; regular = tt; marks = refl; values = refl; marks_size = refl; values_size = refl; carried = C }

  module _ {t : ℕ} {s : List Held} {ms vs : List ℕ} (R : Running n room t rows log ms₀ vs₀ s ms vs) where
    pub recall : Fitting room n t (length ms) → Fitting room n t (length vs) → Recalls room n t R.past ms vs
    recall F G =
        recalls room n t R.past R.ticks R.regular ms₀ vs₀ ms vs (subst (Fitting room n t) R.marks_size F)
        (subst (Fitting room n t) R.values_size G) R.marks R.values

    pub close : t < 2 ^ 24 → Nearby room rows log → Near room rows R.past
    close l N = N.near t R.past l R.so_far

    -- the next tick of the definition
    unroll : run rows log (suc t) ≡ on_tick t R.past (tick_of rows log R.past)
    unfolding run
    unroll = rw R.so_far

    module _ (s' : List Held) (ms' vs' : List ℕ) (r : Ticked) (size : length rows ≡ n)
        (d : TickAt (first_cell room n t) rows t R.past (tick_of rows log R.past) ms vs ms' vs' s' r) where
      pub goes_on : r ≡ Ok tt → length ms' ≡ length ms → length vs' ≡ length vs → Running n room (t + 1) rows log ms₀ vs₀ s' ms' vs'
      goes_on q zm zv = go (tick_of rows log R.past) refl d
        where
          extended : (now : Tick) → run rows log (suc t) ≡ done (now ∷ R.past) → WroteAt (first_cell room n t) now ms vs ms' vs' → length now ≡ n
              → AllCarry rows (suc t) (now ∷ R.past) s' → Running n room (suc t) rows log ms₀ vs₀ s' ms' vs'
          extended now e W l A =
              record {
                past = now ∷ R.past;
                ticks = ap suc R.ticks;
                so_far = e;
                regular = (l, R.regular);
                marks = one_more room n t mark_byte ms₀ ms ms' R.past now R.ticks R.marks W.marks;
                values = one_more room n t value vs₀ vs vs' R.past now R.ticks R.values W.values;
                marks_size = zm ∙ R.marks_size;
                values_size = zv ∙ R.values_size;
                carried = A;
              }

          go : (x : TickEnd) → tick_of rows log R.past ≡ x → TickAt (first_cell room n t) rows t R.past x ms vs ms' vs' s' r
              → Running n room (t + 1) rows log ms₀ vs₀ s' ms' vs'
          go (stopped f now) e d = end_or_clash (sym q ∙ d.0)
          go (filled now) e d =
              subst (λ (i : ℕ). Running n room i rows log ms₀ vs₀ s' ms' vs') (sym (add-one t))
              (extended now (unroll ∙ ap (on_tick t R.past) e) d.1 (d.2 ∙ size) d.3)

      pub stops : (to f : ℕ) → r ≡ Err f → t < to → TicksEnd n room to rows log (run rows log to) ms₀ vs₀ s' ms' vs' (Err (clash_at t f))
      stops to f q h = go (tick_of rows log R.past) refl d
        where
          go : (x : TickEnd) → tick_of rows log R.past ≡ x → TickAt (first_cell room n t) rows t R.past x ms vs ms' vs' s' r
              → TicksEnd n room to rows log (run rows log to) ms₀ vs₀ s' ms' vs' (Err (clash_at t f))
          go (filled now) e d = end_or_clash (sym d.0 ∙ q)
          go (stopped g now) e d =
              let u : f ≡ g = same_clash (sym q ∙ d.0) in
              let v : to ≡ (to - suc t) + suc t = omega arith in
              let x : run rows log to ≡ clashed t g now R.past =
              ap (run rows log) v ∙ stays rows log (suc t) t g now R.past (to - suc t) (unroll ∙ ap (on_tick t R.past) e) in
              subst (λ (y : Ran). TicksEnd n room to rows log y ms₀ vs₀ s' ms' vs' (Err (clash_at t f))) (sym x) (
                ap (λ (i : ℕ). Err (clash_at t i)) u,
                record {
                  flow = omega (arith, d.2, size);
                  few = omega (arith, R.ticks);
                  regular = R.regular;
                  marks = one_more room n t mark_byte ms₀ ms ms' R.past now R.ticks R.marks d.1.marks;
                  values = one_more room n t value vs₀ vs vs' R.past now R.ticks R.values d.1.values;
                },
              )

    pub ends : (to : ℕ) → to ≤ t → t ≤ to → TicksEnd n room to rows log (run rows log to) ms₀ vs₀ s ms vs (Ok tt)
    ends to l h =
        let e : t ≡ to = omega arith in
        subst (λ (y : Ran). TicksEnd n room to rows log y ms₀ vs₀ s ms vs (Ok tt)) (sym (ap (run rows log) (sym e) ∙ R.so_far))
        (refl, subst (λ (i : ℕ). Running n room i rows log ms₀ vs₀ s ms vs) e R)

-- all ticks up to one are filled where none of them clashes
pub filled_up : (n room to : ℕ) (rows : List Row) (log ms₀ vs₀ : List ℕ) (s : List Held) (ms vs : List ℕ) (r : Reached) → Unclashed rows log
    → TicksEnd n room to rows log (run rows log to) ms₀ vs₀ s ms vs r → Running n room to rows log ms₀ vs₀ s ms vs
filled_up n room to rows log ms₀ vs₀ s ms vs r U d =
    (subst (λ (y : Ran). TicksEnd n room to rows log y ms₀ vs₀ s ms vs r) (U.ends to).1 d).1

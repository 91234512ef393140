-- The loop over the flows of one tick: what its invariant says, and how a turn keeps it. Assumes nothing.
use Rattle.std.proofs.Common.{Ok, Err, ◌≡◌, ℕ, suc, ◌+◌, ◌*◌, ◌<◌, ◌≤◌, List, [], ◌∷◌, ◌++◌, length}
use Rattle.std.proofs.Common.{drop, set, sym, refl, ap, ◌∙◌, subst, ⊎_elim, eq-or-lt_of_le, add-one, arith, length-append, drop-cons, get_or-set_other, get_or-set_same}
use lib.ListN.{get_or-append}
use lib.Seq.{drop-length}
use Rattle.table.specs.Rows.{Row, tail}
use Rattle.table.specs.Tables.{row_at}
use Rattle.table.proofs.Tables.{Table}
use Rattle.runner.specs.declared.operators.Outcome.{Outcome}
use Rattle.semantics.specs.Cells.{Cell, absent, present, value}
use Rattle.semantics.specs.Operators.{Step, is, clashes}
use Rattle.semantics.specs.Runs.{Tick, Ticks, cell_in, history, inputs, cell_of, TickEnd, filled, stopped, on_step, flows_from}
use Rattle.semantics.specs.Answers.{mark_byte}
use Rattle.runner.specs.declared.carried.Held.{Held}
use Rattle.runner.specs.Private.Carried.{clash_mark, outcome_of, mark_of, value_of, held_at, cells_in, step_of, next_of, Did}
use Rattle.runner.specs.Private.Ready.{Carries, Collected, Follows, AllCarry, AllFollow, Ready, Wrote, FlowsEnd}
use Rattle.runner.proofs.Written.{wrote_more, here_is}
use Rattle.runner.proofs.Tabled.{words_at, made_of, RowAt, row_of_lem}
use Rattle.runner.proofs.Steps.{row_steps, row_follows, follows_on}

-- the mark and the value of an outcome that is a cell
mark_is : (c : Cell) → mark_of (outcome_of (is c)) ≡ mark_byte c
mark_is absent = refl
mark_is (present v) = refl

value_is : (c : Cell) → value_of (outcome_of (is c)) ≡ value c
value_is absent = refl
value_is (present v) = refl

-- what an outcome tells of the step
clash_told : (x : Step) → mark_of (outcome_of x) ≡ clash_mark → x ≡ clashes
clash_told (is absent) e = absurd (omega (arith, e))
clash_told (is (present v)) e = absurd (omega (arith, e))
clash_told clashes e = refl

record Told (x : Step) : Type 0 where
  pub cell : Cell
  pub told : x ≡ is cell

cell_told_lem : (x : Step) → (mark_of (outcome_of x) ≡ clash_mark → ⊥) → Told x
cell_told_lem (is c) u = record { cell = c; told = refl }
cell_told_lem clashes u = absurd (u refl)

pub record Going (rows : List Row) (log : List ℕ) (past : Ticks) (t : ℕ) (s₀ : List Held) (ms₀ vs₀ : List ℕ) (s : List Held) (ms vs : List ℕ) (f : ℕ) : Type 0 where
  pub now : Tick
  pub size : length now ≡ f
  pub wrote : Wrote now ms₀ vs₀ ms vs
  pub rest : flows_from rows log past now (drop f rows) ≡ flows_from rows log past [] rows
  pub followed : (g : ℕ) → g < f → Follows rows g (row_at rows g) t now past (held_at s g)
  pub left : (g : ℕ) → f ≤ g → held_at s g ≡ held_at s₀ g

module _ (n : ℕ) (words log : List ℕ) (rows : List Row) (T : Table n words rows) (past : Ticks) (t at : ℕ) (s₀ : List Held) (ms₀ vs₀ : List ℕ) (R : Ready rows past t at s₀) where
  pub starts : Going rows log past t s₀ ms₀ vs₀ s₀ ms₀ vs₀ 0
  starts = record { now = []; size = refl; wrote = record { marks = refl; values = refl }; rest = refl; followed = λ g l. absurd (omega arith); left = λ g l. refl }

  module _ (s : List Held) (ms vs : List ℕ) (f : ℕ) (G : Going rows log past t s₀ ms₀ vs₀ s ms vs f) where
    pub ends : n ≤ f → f ≤ n → FlowsEnd rows t past (flows_from rows log past [] rows) ms₀ vs₀ ms vs s (Ok tt)
    unfolding flows_from AllFollow
    ends l k =
        let e : f ≡ length rows = omega (arith, T.size) in
        let d : drop f rows ≡ [] = ap (λ (i : ℕ). drop i rows) e ∙ drop-length rows in
        let q : flows_from rows log past [] rows ≡ filled G.now = sym G.rest ∙ ap (flows_from rows log past G.now) d in
        subst (λ (x : TickEnd). FlowsEnd rows t past x ms₀ vs₀ ms vs s (Ok tt)) (sym q)
        (refl, G.wrote, G.size ∙ e, λ g m. G.followed g (omega arith))

    module _ (low : f < n) where
      -- the step of the definition
      unroll :
          flows_from rows log past [] rows
          ≡ on_step (cell_of rows log past G.now (row_at rows f)) G.now (λ c. flows_from rows log past (G.now ++ (c ∷ [])) (drop (suc f) rows))
      unfolding flows_from
      unroll = sym G.rest ∙ ap (flows_from rows log past G.now) (drop-cons rows f (tail 0) (omega (arith, T.size)))

      row : RowAt n words (row_at rows f) f
      row = row_of_lem n words rows T f low

      carried : Carries rows f (row_at rows f) (length past) (history past) (held_at s f)
      unfolding AllCarry
      carried =
          subst (λ (w : Held). Carries rows f (row_at rows f) (length past) (history past) w) (sym (G.left f (omega arith)))
          (subst (λ (i : ℕ). Carries rows f (row_at rows f) i (history past) (held_at s₀ f)) (sym R.ticks) (R.carried f (omega (arith, T.size))))

      collected : Collected (row_at rows f) (history past) (held_at s f)
      collected = subst (λ (w : Held). Collected (row_at rows f) (history past) w) (sym (G.left f (omega arith))) (R.collected f (omega (arith, T.size)))

      -- the code's step is a step from the cells so far
      near :
          step_of (made_of (words_at words f)) t log at (cells_in ms vs f) (held_at s f)
          ≡ step_of (row_at rows f) (length past) log at (cell_in G.now) (held_at s f)
      near =
          ap (λ (r : Row). step_of r t log at (cells_in ms vs f) (held_at s f)) row.made
          ∙ ap (λ (i : ℕ → Cell). step_of (row_at rows f) t log at i (held_at s f)) (here_is G.now ms₀ vs₀ ms vs G.wrote f G.size)
          ∙ ap (λ (i : ℕ). step_of (row_at rows f) i log at (cell_in G.now) (held_at s f)) (sym R.ticks)

      next_near : next_of (made_of (words_at words f)) t (cells_in ms vs f) (held_at s f) ≡ next_of (row_at rows f) (length past) (cell_in G.now) (held_at s f)
      next_near =
          ap (λ (r : Row). next_of r t (cells_in ms vs f) (held_at s f)) row.made
          ∙ ap (λ (i : ℕ → Cell). next_of (row_at rows f) t i (held_at s f)) (here_is G.now ms₀ vs₀ ms vs G.wrote f G.size)
          ∙ ap (λ (i : ℕ). next_of (row_at rows f) i (cell_in G.now) (held_at s f)) (sym R.ticks)

      step_is : step_of (row_at rows f) (length past) log at (cell_in G.now) (held_at s f) ≡ cell_of rows log past G.now (row_at rows f)
      step_is =
          row_steps n f rows log past G.now (held_at s f) at (row_at rows f) row.fits carried collected
          (R.place ∙ ap (λ (i : ℕ). i * inputs rows) (sym R.ticks)) G.size

      module _ (h : Held) (r : Outcome) (room : f < length s) (D : Did (made_of (words_at words f)) t log at (cells_in ms vs f) (held_at s f) h r) where
        abbrev s' : List Held
        s' = set s f h

        pub stops : (ms' vs' : List ℕ) → mark_of r ≡ clash_mark → ms' ≡ ms → vs' ≡ vs → FlowsEnd rows t past (flows_from rows log past [] rows) ms₀ vs₀ ms' vs' s' (Err f)
        stops ms' vs' e em ev =
            let c : cell_of rows log past G.now (row_at rows f) ≡ clashes = sym step_is ∙ sym near ∙ clash_told _ (ap mark_of (sym D.answer) ∙ e) in
            let q : flows_from rows log past [] rows ≡ stopped (length G.now) G.now =
            unroll ∙ ap (λ (x : Step). on_step x G.now (λ c. flows_from rows log past (G.now ++ (c ∷ [])) (drop (suc f) rows))) c in
            subst (λ (x : TickEnd). FlowsEnd rows t past x ms₀ vs₀ ms' vs' s' (Err f)) (sym q)
            (ap (λ (i : ℕ). Err i) (sym G.size), record { marks = em ∙ G.wrote.marks; values = ev ∙ G.wrote.values }, omega (arith, T.size, G.size))

        -- the cells below are those of the tick as it grows
        grows : (c : Cell) (g a : ℕ) → g ≤ f → a < g → cell_in G.now a ≡ cell_in (G.now ++ (c ∷ [])) a
        grows c g a l k = sym (get_or-append G.now (c ∷ []) absent a (omega (arith, G.size)))

        -- the cell that a step came to stands in the parts
        grown :
            (c : Cell) (ms' vs' : List ℕ) → step_of (made_of (words_at words f)) t log at (cells_in ms vs f) (held_at s f) ≡ is c
            → f < length ms₀ → f < length vs₀ → ms' ≡ set ms f (mark_byte c) → vs' ≡ set vs f (value c)
            → Going rows log past t s₀ ms₀ vs₀ s' ms' vs' (f + 1)
        grown c ms' vs' e lm lv em ev =
            let o : step_of (row_at rows f) (length past) log at (cell_in G.now) (held_at s f) ≡ is c = sym near ∙ e in
            record {
              now = G.now ++ (c ∷ []);
              size = simp length-append (omega (arith, G.size));
              wrote = wrote_more G.now ms₀ vs₀ ms vs G.wrote c f ms' vs' G.size lm lv em ev;
              rest =
                  ap (λ (i : ℕ). flows_from rows log past (G.now ++ (c ∷ [])) (drop i rows)) (add-one f)
                  ∙ sym (unroll ∙ ap (λ (x : Step). on_step x G.now (λ c. flows_from rows log past (G.now ++ (c ∷ [])) (drop (suc f) rows))) (sym step_is ∙ o));
              followed = λ g l. ⊎_elim (same c e) (below c g) (eq-or-lt_of_le {n = g} {m = f} (omega arith));
              left = λ g l. get_or-set_other s f g h _ (λ e. omega arith) ∙ G.left g (omega arith);
            }
          where
            below : (c : Cell) (g : ℕ) → g < f → Follows rows g (row_at rows g) t (G.now ++ (c ∷ [])) past (held_at s' g)
            below c g l =
                follows_on n g t rows past G.now (G.now ++ (c ∷ [])) (held_at s' g) (row_at rows g)
                (row_of_lem n words rows T g (omega arith)).fits (λ a k. grows c g a (omega arith) k)
                (subst (λ (w : Held). Follows rows g (row_at rows g) t G.now past w) (sym (get_or-set_other s f g h _ (λ e. omega arith))) (G.followed g l))

            same :
                (c : Cell) → step_of (made_of (words_at words f)) t log at (cells_in ms vs f) (held_at s f) ≡ is c → {g : ℕ} → g ≡ f
                → Follows rows g (row_at rows g) t (G.now ++ (c ∷ [])) past (held_at s' g)
            same c e q =
                subst (λ (i : ℕ). Follows rows i (row_at rows i) t (G.now ++ (c ∷ [])) past (held_at s' i)) (sym q)
                (follows_on n f t rows past G.now (G.now ++ (c ∷ [])) (held_at s' f) (row_at rows f) row.fits (λ a k. grows c f a (omega arith) k)
                (subst (λ (w : Held). Follows rows f (row_at rows f) t G.now past w) (sym (get_or-set_same s f h _ room ∙ D.carried ∙ next_near))
                (subst (λ (i : ℕ). Follows rows f (row_at rows f) i G.now past (next_of (row_at rows f) (length past) (cell_in G.now) (held_at s f))) R.ticks
                (row_follows n f rows log past G.now (held_at s f) at (row_at rows f) c row.fits carried collected (sym near ∙ e)))))

        pub goes_on : (ms' vs' : List ℕ) → (mark_of r ≡ clash_mark → ⊥) → f < length ms₀ → f < length vs₀ → ms' ≡ set ms f (mark_of r) → vs' ≡ set vs f (value_of r)
            → Going rows log past t s₀ ms₀ vs₀ s' ms' vs' (f + 1)
        goes_on ms' vs' u lm lv em ev =
            let k = cell_told_lem _ (λ e. u (ap mark_of D.answer ∙ e)) in
            let a : r ≡ outcome_of (is k.cell) = D.answer ∙ ap outcome_of k.told in
            grown k.cell ms' vs' k.told lm lv (em ∙ ap (λ (o : Outcome). set ms f (mark_of o)) a ∙ ap (set ms f) (mark_is k.cell))
            (ev ∙ ap (λ (o : Outcome). set vs f (value_of o)) a ∙ ap (set vs f) (value_is k.cell))

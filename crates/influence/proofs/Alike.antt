-- Two runs that end, over logs that agree where the inputs of a set of flows are due: where the set has with a flow those that its row names,
-- its flows have the same histories. Assumes nothing.
use mathlib.Core.Path.{◌≡◌, refl, sym, ◌∙◌, ap, ap₂, subst}
use Prim.Native.Nat.{ℕ, zero, suc, ◌+◌, ◌≤◌, ◌<◌}
use native.Mathlib.Omega.{arith}
use mathlib.Core.Bool.{Bool, true, false, cond}
use mathlib.Core.List.{List, [], ◌∷◌, ◌++◌}
use lib.ListN.{length, length-append, get_or-append}
use lib.Seq.{get_or-append_seam}
use Rattle.table.specs.Rows.{Row, input, constant, combine, register, faster, slower, later, head, tail, sample, merge, unrated, view, operand}
use Rattle.table.specs.Tables.{RowHas, Linked}
use Rattle.table.proofs.Lists.{Each, below_suc}
use Rattle.reach.specs.Sets.{Flows}
use Rattle.semantics.specs.Cells.{Cell, absent, present, History, on_grid}
use Rattle.semantics.specs.Operators.{Step, is, clashes, combined, registered, faster_of, slower_of, later_of, tail_of, head_of, sampled}
use Rattle.semantics.specs.Runs.{Tick, Ticks, cell_in, history, word, cell_of, TickEnd, filled, on_step, flows_from, done, run}
use Rattle.semantics.proofs.Traces.{run_length}
use Rattle.calendar.proofs.Endings.{not_filled, Last, last, tick_parts}

-- a flow of a tick that was filled has a cell
stepped : (st : Step) (now : Tick) (go : Cell → TickEnd) (end : Tick) → on_step st now go ≡ filled end → (c : Cell) × (st ≡ is c) × (go c ≡ filled end)
stepped (is c) now go end e = (c, refl, e)
stepped clashes now go end e = not_filled e

timed_alike : (b : Bool) (v v' : ℕ) → (b ≡ true → v ≡ v') → cond b (present v) absent ≡ cond b (present v') absent
timed_alike true v v' h = ap present (h refl)
timed_alike false v v' h = refl

module _ (rows : List Row) (log log' : List ℕ) (m : ℕ) (s : Flows) where
  -- row f, where the set has it: the set has the flows that it names, and the logs agree on it at tick t where it is an input and due
  pub record Ready (t f : ℕ) (r : Row) : Type 0 where
    pub linked : s f ≡ true → RowHas (Linked (λ a. s a ≡ true) m f) r
    pub logged : s f ≡ true → (n p : ℕ) → r ≡ input n p → on_grid n p t ≡ true → word rows log t f ≡ word rows log' t f

  -- the cells of the set's flows below n, and their histories
  abbrev SameCells : ℕ → Tick → Tick → Type 0
  SameCells n now now' = (a : ℕ) → a < n → s a ≡ true → cell_in now a ≡ cell_in now' a

  abbrev pub SameHistories : Ticks → Ticks → Type 0
  SameHistories past past' = (a : ℕ) → a < m → s a ≡ true → history past a ≡ history past' a

  module _ (past past' : Ticks) (sizes : length past ≡ length past') (before : SameHistories past past') where
    module _ (now now' : Tick) (wide : length now ≡ length now') (few : length now ≤ m) (here : SameCells (length now) now now') where
      abbrev Operand : ℕ → Type 0
      Operand = Linked (λ a. s a ≡ true) m (length now) operand

      at : (a : ℕ) → Operand a → cell_in now a ≡ cell_in now' a
      at a l = here a l.0 (l.1 refl)

      was : (a : ℕ) → Operand a → history past a ≡ history past' a
      was a l = before a (omega (arith, l.0)) (l.1 refl)

      row_alike : (r : Row) → RowHas (Linked (λ a. s a ≡ true) m (length now)) r
          → ((n p : ℕ) → r ≡ input n p → on_grid n p (length past) ≡ true → word rows log (length past) (length now) ≡ word rows log' (length past) (length now))
          → cell_of rows log past now r ≡ cell_of rows log' past' now' r
      unfolding cell_of
      row_alike (input n p) l w = rw (sym sizes, sym wide) (ap is (timed_alike (on_grid n p (length past)) _ _ (w n p refl)))
      row_alike (constant v n p) l w = rw (sym sizes)
      row_alike (combine op a b) l w = ap₂ (combined op) (at a l.0) (at b l.1)
      row_alike (register v b a) l w = ap is (ap₂ (registered v) (at b l.0) (before a l.1.0 (l.1.1 refl)))
      row_alike (faster a k g) l w = ap₂ (faster_of k g) (at a l.0) (was a l.0)
      row_alike (slower a k) l w = ap is (ap₂ (slower_of k) (at a l.0) (was a l.0))
      row_alike (later a d) l w = ap is (ap₂ (later_of d) (at a l.0) (was a l.0))
      row_alike (head a v u) l w = ap₂ (head_of v u) (at a l.0) (was a l.0)
      row_alike (tail a) l w = ap is (ap₂ tail_of (at a l.0) (was a l.0))
      row_alike (sample u a c) l w = ap₂ (sampled u) (at a l.0) (at c l.1)
      row_alike (merge c a b) l w = rw (at c l.0, at a l.1, at b l.2)
      row_alike unrated l w = refl
      row_alike (view u a c v) l w = rw (at a l.0, was a l.0, at c l.1, was c l.1)

    flows_alike : (rs : List Row) (now now' end end' : Tick) → length now ≡ length now' → length now + length rs ≤ m → Each (Ready (length past)) (length now) rs
        → SameCells (length now) now now' → flows_from rows log past now rs ≡ filled end → flows_from rows log' past' now' rs ≡ filled end'
        → SameCells (length now + length rs) end end'
    unfolding flows_from
    flows_alike [] now now' end end' wide few ready here x y a l i =
        let p : now ≡ end = cc in
        let q : now' ≡ end' = cc in
        ap (λ (d : Tick). cell_in d a) (sym p) ∙ here a (omega arith) i ∙ ap (λ (d : Tick). cell_in d a) q
    flows_alike (r ∷ rs) now now' end end' wide few ready here x y a l i =
        let c = stepped (cell_of rows log past now r) now (λ c. flows_from rows log past (now ++ (c ∷ [])) rs) end x in
        let d = stepped (cell_of rows log' past' now' r) now' (λ c. flows_from rows log' past' (now' ++ (c ∷ [])) rs) end' y in
        let u : length (now ++ (c.0 ∷ [])) ≡ suc (length now) = length-append now (c.0 ∷ []) ∙ omega arith in
        let v : length (now' ++ (d.0 ∷ [])) ≡ suc (length now) = length-append now' (d.0 ∷ []) ∙ omega arith in
        let same : s (length now) ≡ true → c.0 ≡ d.0 =
        λ j. let e : is c.0 ≡ is d.0 = sym c.1 ∙ row_alike now now' wide (omega arith) here r (ready.0.linked j) (ready.0.logged j) ∙ d.1 in cc in
        let more : SameCells (suc (length now)) (now ++ (c.0 ∷ [])) (now' ++ (d.0 ∷ [])) =
        below_suc (λ (a : ℕ). s a ≡ true → cell_in (now ++ (c.0 ∷ [])) a ≡ cell_in (now' ++ (d.0 ∷ [])) a) (length now)
        (λ b k j. get_or-append now (c.0 ∷ []) absent b k ∙ here b k j ∙ sym (get_or-append now' (d.0 ∷ []) absent b (omega arith)))
        (λ j. get_or-append_seam now c.0 [] absent ∙ same j
        ∙ sym (subst (λ (j : ℕ). cell_in (now' ++ (d.0 ∷ [])) j ≡ d.0) (sym wide) (get_or-append_seam now' d.0 [] absent))) in
        flows_alike rs (now ++ (c.0 ∷ [])) (now' ++ (d.0 ∷ [])) end end' (u ∙ sym v) (omega arith) (subst (λ (j : ℕ). Each (Ready (length past)) j rs) (sym u) ready.1)
        (subst (λ (j : ℕ). SameCells j (now ++ (c.0 ∷ [])) (now' ++ (d.0 ∷ []))) (sym u) more) c.2 d.2 a (omega arith) i

  pub histories_alike : length rows ≡ m → (t : ℕ) (past past' : Ticks) → run rows log t ≡ done past → run rows log' t ≡ done past'
      → ((u : ℕ) → u < t → Each (Ready u) 0 rows) → SameHistories past past'
  unfolding run history
  histories_alike size zero past past' x y ready a l i =
      let p : past ≡ past' = cc in
      ap (λ (d : Ticks). history d a) p
  histories_alike size (suc t) past past' x y ready a l i =
      let j : Last rows log t past = last rows log t past x in
      let k : Last rows log' t past' = last rows log' t past' y in
      let z : length j.past ≡ t = run_length rows log t j.past j.before in
      let h : SameHistories j.past k.past = histories_alike size t j.past k.past j.before k.before (λ u v. ready u (omega arith)) in
      let now : cell_in j.now a ≡ cell_in k.now a =
      flows_alike j.past k.past (z ∙ sym (run_length rows log' t k.past k.before)) h rows [] [] j.now k.now refl (omega arith)
      (ready (length j.past) (omega arith)) (λ b m n. absurd (omega arith)) (tick_parts rows log j.past j.now j.fills).0
      (tick_parts rows log' k.past k.now k.fills).0 a (omega arith) i in
      ap (λ (d : Ticks). history d a) j.split ∙ ap₂ (λ (c : Cell) (d : History). c ∷ d) now (h a l i) ∙ ap (λ (d : Ticks). history d a) (sym k.split)

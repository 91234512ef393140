-- The loop over the registers after a tick's flows. Assumes nothing.
use Rattle.std.proofs.Common.{Ok, Err, ◌≡◌, ℕ, zero, suc, ◌+◌, ◌*◌, ◌<◌, ◌≤◌, Bool, true, false, cond, eqb, ltb, ◌⊎◌, List, [], ◌∷◌, length, get_or, drop, set}
use Rattle.std.proofs.Common.{sym, refl, ap, ◌∙◌, subst, inl, inr, ⊎_elim, add-zero, eq-or-lt_of_le, zero-add, arith, drop-cons, get_or-set_other, get_or-set_same, ltb-false, ltb-true}
use Rattle.std.proofs.Common.{eq-eqb, ne_eqb, eqb-true}
use mathlib.Core.Bool.{beq}
use mathlib.Core.Option.{Option, none, some}
use lib.Seq.{drop-length}
use borrow.Author.Tests.{eqb-false}
use Rattle.table.specs.Rows.{Row, tail, register, kinds, decode, on_register, bad_register, row_size, kind_count}
use Rattle.table.proofs.Tests.{Tried, passed, failed, try}
use Rattle.table.specs.Tables.{Fits, row_at}
use Rattle.table.proofs.Tables.{Table}
use Rattle.semantics.specs.Cells.{Cell, absent, present, mark, value, History, latest}
use Rattle.semantics.specs.Operators.{value_or}
use Rattle.semantics.specs.Runs.{Tick, Ticks, cell_in, history, source_meets}
use Rattle.semantics.specs.Answers.{mark_byte}
use Rattle.runner.specs.declared.carried.Held.{Held}
use Rattle.runner.specs.Private.Carried.{held_at}
use Rattle.runner.specs.Private.Ready.{Carries, Follows, AllCarry, AllFollow, Wrote, LatchEnd, is_register}
use Rattle.runner.proofs.Written.{mark_at_lem, value_at_lem}
use Rattle.runner.proofs.Decoded.{of_kind, seven_of}
use Rattle.runner.proofs.Lists.{Listed}
use Rattle.runner.proofs.Tabled.{row_of_lem}

-- the rows before g have no register that does not pass: the lowest one is the lowest from g on
passed_by : (test : ℕ → ℕ → Bool) (f g : ℕ) (rows : List Row) → g ≤ length rows → ((h : ℕ) → h < g → on_register test (row_at rows h) ≡ true)
    → bad_register test f rows ≡ bad_register test (f + g) (drop g rows)
unfolding bad_register
passed_by test f zero rows l p = ap (λ (i : ℕ). bad_register test i rows) (sym (add-zero f))
passed_by test f (suc g) [] l p = absurd (omega arith)
passed_by test f (suc g) (r ∷ rows) l p =
    rw (p 0 (omega arith))
    (passed_by test (suc f) g rows (omega arith) (λ h k. p (suc h) (omega arith)) ∙ ap (λ (i : ℕ). bad_register test i (drop g rows)) (omega arith))

none_bad : (test : ℕ → ℕ → Bool) (rows : List Row) → ((g : ℕ) → g < length rows → on_register test (row_at rows g) ≡ true) → bad_register test 0 rows ≡ none
unfolding bad_register
none_bad test rows p = passed_by test 0 (length rows) rows (omega arith) p ∙ rw (drop-length rows)

first_bad : (test : ℕ → ℕ → Bool) (g : ℕ) (rows : List Row) → g < length rows → on_register test (row_at rows g) ≡ false → ((h : ℕ) → h < g → on_register test (row_at rows h) ≡ true)
    → bad_register test 0 rows ≡ some g
unfolding bad_register
first_bad test g rows l e p = passed_by test 0 g rows (omega arith) p ∙ rw (drop-cons rows g (tail 0) l, e, zero-add g)

-- equal marks are equal presences
marks_meet : (c d : Cell) → beq (mark c) (mark d) ≡ eqb (mark_byte c) (mark_byte d)
marks_meet absent absent = refl
marks_meet absent (present v) = refl
marks_meet (present v) absent = refl
marks_meet (present v) (present u) = refl

latest_is : (v x : ℕ) (c : Cell) (h : History) → x ≡ value_or v (latest h) → cond (eqb (mark_byte c) 0) x (value c) ≡ value_or v (latest (c ∷ h))
unfolding latest
latest_is v x absent h e = e
latest_is v x (present u) h e = refl

pub record Latching (n t : ℕ) (words list : List ℕ) (rows : List Row) (cells : Tick) (past : Ticks) (s₀ s : List Held) (j : ℕ) : Type 0 where
  pub met : (i : ℕ) → i < j → on_register (source_meets cells) (row_at rows (get_or list i 0)) ≡ true
  pub done : (i : ℕ) → i < j → Carries rows (get_or list i 0) (row_at rows (get_or list i 0)) (suc t) (history (cells ∷ past)) (held_at s (get_or list i 0))
  pub left : (g : ℕ) → ((i : ℕ) → i < j → get_or list i 0 ≡ g → ⊥) → held_at s g ≡ held_at s₀ g

module _ (n : ℕ) (words list : List ℕ) (rows : List Row) (T : Table n words rows) (I : Listed is_register n words list) where
  -- a row of another kind is no register
  other_row : (test : ℕ → ℕ → Bool) (g : ℕ) → g < n → (get_or words (row_size * g) 0 ≡ 7 → ⊥) → on_register test (row_at rows g) ≡ true
  other_row test g l k = (row_of_lem n words rows T g l).no_register k test

  kind_at_lem : (j : ℕ) → j < length list → get_or words (row_size * get_or list j 0) 0 ≡ 7
  kind_at_lem j h = seven_of _ (row_of_lem n words rows T (get_or list j 0) (I.within j h)).known (I.kind j h)

  register_at :
      (j : ℕ) → j < length list → row_at rows (get_or list j 0)
      ≡ register (get_or words (row_size * get_or list j 0 + 1) 0) (get_or words (row_size * get_or list j 0 + 2) 0) (get_or words (row_size * get_or list j 0 + 3) 0)
  unfolding kinds
  register_at j h =
      sym (row_of_lem n words rows T (get_or list j 0) (I.within j h)).made
      ∙ ap (λ (k : ℕ). decode k (get_or words (row_size * get_or list j 0 + 1) 0) (get_or words (row_size * get_or list j 0 + 2) 0)
      (get_or words (row_size * get_or list j 0 + 3) 0))
      (kind_at_lem j h)

  -- its beat is below it, its source in the table
  pub operands_low : (j : ℕ) → j < length list → (get_or words (row_size * get_or list j 0 + 2) 0 < get_or list j 0) × (get_or words (row_size * get_or list j 0 + 3) 0 < n)
  operands_low j h = subst (Fits n (get_or list j 0)) (register_at j h) (row_of_lem n words rows T (get_or list j 0) (I.within j h)).fits

  module _ (past : Ticks) (cells : Tick) (ms₀ vs₀ ms vs : List ℕ) (s₀ : List Held) (t : ℕ) (z : length cells ≡ n) (W : Wrote cells ms₀ vs₀ ms vs) (F : AllFollow rows t cells past s₀) where
    pub starts : Latching n t words list rows cells past s₀ s₀ 0
    starts = record { met = λ i l. absurd (omega arith); done = λ i l. absurd (omega arith); left = λ g e. refl }

    -- a row is a register, in the list before j or not
    in_list : (g j : ℕ) → g < n → j ≤ length list → ((i : ℕ) → j ≤ i → i < length list → get_or list i 0 ≡ g → ⊥) → Tried (eqb (get_or words (row_size * g) 0) 7)
        → ((i : ℕ) × (i < j) × (get_or list i 0 ≡ g)) ⊎ (get_or words (row_size * g) 0 ≡ 7 → ⊥)
    in_list g j l k out (failed e) = inr (eqb-false (get_or words (row_size * g) 0) 7 e)
    in_list g j l k out (passed e) = inl (here (I.all g l (of_kind 7 kind_count _ (eqb-true (get_or words (row_size * g) 0) 7 e))))
      where
        here : (i : ℕ) × (i < length list) × (get_or list i 0 ≡ g) → (i : ℕ) × (i < j) × (get_or list i 0 ≡ g)
        here p = go (try (ltb p.0 j))
          where
            go : Tried (ltb p.0 j) → (i : ℕ) × (i < j) × (get_or list i 0 ≡ g)
            go (passed q) = (p.0, ltb-true p.0 j q, p.2)
            go (failed q) = absurd (out p.0 (ltb-false p.0 j q) p.1 p.2)

    module _ (s : List Held) (j : ℕ) (L : Latching n t words list rows cells past s₀ s j) where
      pub ends : length list ≤ j → j ≤ length list → LatchEnd rows t past cells (bad_register (source_meets cells) 0 rows) s (Ok tt)
      unfolding AllCarry AllFollow Follows
      ends l k =
          subst (λ (o : Option ℕ). LatchEnd rows t past cells o s (Ok tt)) (sym (none_bad (source_meets cells) rows met))
          (refl, carry)
        where
          split : (g : ℕ) → g < n → ((i : ℕ) × (i < j) × (get_or list i 0 ≡ g)) ⊎ (get_or words (row_size * g) 0 ≡ 7 → ⊥)
          split g b = in_list g j b k (λ i p q e. omega arith) (try (eqb (get_or words (row_size * g) 0) 7))

          met : (g : ℕ) → g < length rows → on_register (source_meets cells) (row_at rows g) ≡ true
          met g b =
              ⊎_elim (λ (p : (i : ℕ) × (i < j) × (get_or list i 0 ≡ g)). subst (λ (m : ℕ). on_register (source_meets cells) (row_at rows m) ≡ true) p.2 (L.met p.0 p.1))
              (λ (e : get_or words (row_size * g) 0 ≡ 7 → ⊥). other_row (source_meets cells) g (omega (arith, T.size)) e) (split g (omega (arith, T.size)))

          apart : (g : ℕ) → (get_or words (row_size * g) 0 ≡ 7 → ⊥) → (i : ℕ) → i < j → get_or list i 0 ≡ g → ⊥
          apart g e i b q = e (ap (λ (m : ℕ). get_or words (row_size * m) 0) (sym q) ∙ kind_at_lem i (omega arith))

          carry : (g : ℕ) → g < length rows → Carries rows g (row_at rows g) (suc t) (history (cells ∷ past)) (held_at s g)
          carry g b =
              ⊎_elim
              (λ (p : (i : ℕ) × (i < j) × (get_or list i 0 ≡ g)). subst
              (λ (m : ℕ). Carries rows m (row_at rows m) (suc t) (history (cells ∷ past)) (held_at s m)) p.2 (L.done p.0 p.1))
              (λ (e : get_or words (row_size * g) 0 ≡ 7 → ⊥).
              subst (λ (w : Held). Carries rows g (row_at rows g) (suc t) (history (cells ∷ past)) w) (sym (L.left g (apart g e)))
              (rw (other_row (λ b a. false) g (omega (arith, T.size)) e) at (F g b)))
              (split g (omega (arith, T.size)))

      module _ (h : j < length list) where
        f : ℕ
        f = get_or list j 0

        below : f < n
        unfolding f
        below = I.within j h

        is_register_lem : row_at rows f ≡ register (get_or words (row_size * f + 1) 0) (get_or words (row_size * f + 2) 0) (get_or words (row_size * f + 3) 0)
        unfolding f
        is_register_lem = register_at j h

        fits : (get_or words (row_size * f + 2) 0 < f) × (get_or words (row_size * f + 3) 0 < n)
        unfolding f
        fits = operands_low j h

        meets : on_register (source_meets cells) (row_at rows f) ≡ eqb (get_or ms (get_or words (row_size * f + 3) 0) 0) (get_or ms (get_or words (row_size * f + 2) 0) 0)
        meets =
            ap (on_register (source_meets cells)) is_register_lem
            ∙ marks_meet (cell_in cells (get_or words (row_size * f + 3) 0)) (cell_in cells (get_or words (row_size * f + 2) 0))
            ∙ ap (λ (m : ℕ). eqb m (mark_byte (cell_in cells (get_or words (row_size * f + 2) 0))))
            (sym (mark_at_lem cells ms₀ vs₀ ms vs W (get_or words (row_size * f + 3) 0) (omega (arith, fits.1))))
            ∙ ap (λ (m : ℕ). eqb (get_or ms (get_or words (row_size * f + 3) 0) 0) m)
            (sym (mark_at_lem cells ms₀ vs₀ ms vs W (get_or words (row_size * f + 2) 0) (omega (arith, fits.0, below))))

        pub stops : (get_or ms (get_or words (row_size * get_or list j 0 + 3) 0) 0 ≡ get_or ms (get_or words (row_size * get_or list j 0 + 2) 0) 0 → ⊥)
            → LatchEnd rows t past cells (bad_register (source_meets cells) 0 rows) s (Err (get_or list j 0))
        unfolding f
        stops e =
            subst (λ (o : Option ℕ). LatchEnd rows t past cells o s (Err f))
            (sym (first_bad (source_meets cells) f rows (omega (arith, T.size, below)) (meets ∙ ne_eqb _ _ e) lower))
            (refl, omega (arith, T.size, below))
          where
            lower : (g : ℕ) → g < f → on_register (source_meets cells) (row_at rows g) ≡ true
            lower g b =
                ⊎_elim (λ (p : (i : ℕ) × (i < j) × (get_or list i 0 ≡ g)). subst (λ (m : ℕ). on_register (source_meets cells) (row_at rows m) ≡ true) p.2 (L.met p.0 p.1))
                (λ (k : get_or words (row_size * g) 0 ≡ 7 → ⊥). other_row (source_meets cells) g (omega (arith, below)) k)
                (in_list g j (omega (arith, below)) (omega arith) after (try (eqb (get_or words (row_size * g) 0) 7)))
              where
                after : (i : ℕ) → j ≤ i → i < length list → get_or list i 0 ≡ g → ⊥
                after i p q k =
                    ⊎_elim (λ (u : j ≡ i). let v : get_or list j 0 ≡ get_or list i 0 = ap (λ (m : ℕ). get_or list m 0) u in omega arith)
                    (λ (u : j < i). omega (arith, I.rising j i u q)) (eq-or-lt_of_le p)

        -- no earlier entry is this register
        earlier : (i : ℕ) → i < j → get_or list i 0 ≡ f → ⊥
        unfolding f
        earlier i b e = omega (arith, I.rising i j b h)

        old : (held_at s f).x ≡ value_or (get_or words (row_size * f + 1) 0) (latest (history past (get_or words (row_size * f + 3) 0)))
        unfolding AllFollow Follows Carries
        old =
            ap (λ (w : Held). w.x) (L.left f earlier)
            ∙ subst (λ (r : Row). Follows rows f r t cells past (held_at s₀ f)) is_register_lem (F f (omega (arith, T.size, below)))

        -- the register's words after the tick
        module _ (w : ℕ) (room : f < length s)
            (q : w ≡ cond (eqb (get_or ms (get_or words (row_size * f + 3) 0) 0) 0) (held_at s f).x (get_or vs (get_or words (row_size * f + 3) 0) 0)) where
          abbrev words' : Held
          words' = record (held_at s f) { x = w }

          latched : Carries rows f (row_at rows f) (suc t) (history (cells ∷ past)) words'
          unfolding Carries history
          latched =
              let a : ℕ = get_or words (row_size * f + 3) 0 in
              let m : get_or ms a 0 ≡ mark_byte (cell_in cells a) = mark_at_lem cells ms₀ vs₀ ms vs W a (omega (arith, fits.1)) in
              let v : get_or vs a 0 ≡ value (cell_in cells a) = value_at_lem cells ms₀ vs₀ ms vs W a (omega (arith, fits.1)) in
              subst (λ (r : Row). Carries rows f r (suc t) (history (cells ∷ past)) words') (sym is_register_lem)
              (q
              ∙ ap (λ (i : ℕ). cond (eqb i 0) (held_at s f).x (get_or vs a 0)) m
              ∙ ap (λ (i : ℕ). cond (eqb (mark_byte (cell_in cells a)) 0) (held_at s f).x i) v
              ∙ latest_is (get_or words (row_size * f + 1) 0) (held_at s f).x (cell_in cells a) (history past a) old)

          latches : get_or ms (get_or words (row_size * f + 3) 0) 0 ≡ get_or ms (get_or words (row_size * f + 2) 0) 0
              → Latching n t words list rows cells past s₀ (set s f words') (j + 1)
          unfolding f
          latches e =
              record {
                met =
                    λ i b. ⊎_elim
                    (λ (u : i ≡ j). subst (λ (m : ℕ). on_register (source_meets cells) (row_at rows (get_or list m 0)) ≡ true) (sym u) (meets ∙ eq-eqb _ _ e))
                    (L.met i) (eq-or-lt_of_le {n = i} {m = j} (omega arith));
                done = λ i b. ⊎_elim (here i) (there i) (eq-or-lt_of_le {n = i} {m = j} (omega arith));
                left = λ g b. get_or-set_other s f g words' _ (λ u. b j (omega arith) (sym u)) ∙ L.left g (λ i k. b i (omega arith));
              }
            where
              there : (i : ℕ) → i < j → Carries rows (get_or list i 0) (row_at rows (get_or list i 0)) (suc t) (history (cells ∷ past)) (held_at (set s f words') (get_or list i 0))
              there i b =
                  subst (λ (w : Held). Carries rows (get_or list i 0) (row_at rows (get_or list i 0)) (suc t) (history (cells ∷ past)) w)
                  (sym (get_or-set_other s f (get_or list i 0) words' _ (earlier i b))) (L.done i b)

              here : (i : ℕ) → i ≡ j → Carries rows (get_or list i 0) (row_at rows (get_or list i 0)) (suc t) (history (cells ∷ past)) (held_at (set s f words') (get_or list i 0))
              here i u =
                  subst (λ (m : ℕ). Carries rows (get_or list m 0) (row_at rows (get_or list m 0)) (suc t) (history (cells ∷ past)) (held_at (set s f words') (get_or list m 0))) (sym u)
                  (subst (Carries rows f (row_at rows f) (suc t) (history (cells ∷ past))) (sym (get_or-set_same s f words' _ room)) latched)

        pub goes_on :
            (w : ℕ) → get_or list j 0 < length s → w ≡ cond (eqb (get_or ms (get_or words (row_size * get_or list j 0 + 3) 0) 0) 0) (held_at s (get_or list j 0)).x
            (get_or vs (get_or words (row_size * get_or list j 0 + 3) 0) 0)
            → get_or ms (get_or words (row_size * get_or list j 0 + 3) 0) 0 ≡ get_or ms (get_or words (row_size * get_or list j 0 + 2) 0) 0
            → Latching n t words list rows cells past s₀ (set s (get_or list j 0) (record (held_at s (get_or list j 0)) { x = w })) (j + 1)
        unfolding f
        goes_on w room q e = latches w room q e

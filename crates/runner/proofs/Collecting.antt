-- What the rows that look back need of earlier ticks, row after row. Assumes nothing.
use Rattle.std.proofs.Common.{◌≡◌, ℕ, ◌+◌, ◌-◌, ◌*◌, ◌<◌, ◌≤◌, Bool, true, false, eqb, leb, ◌⊎◌, List, length, get_or, set, sym, refl, ap, ◌∙◌}
use Rattle.std.proofs.Common.{subst, inl, inr, ⊎_elim, true≢false, eq-or-lt_of_le, arith, get_or-set_other, get_or-set_same, eqb-true, leb-false, leb-true}
use mathlib.Core.Option.{some}
use lib.ListN.{get_or-eq_default}
use borrow.Author.Tests.{eqb-false}
use Rattle.table.specs.Rows.{max_field, Row, later, view, kinds, kind_count, first_view, decode, row_size}
use Rattle.table.proofs.Tests.{Tried, passed, failed, try}
use Rattle.table.specs.Tables.{Fits, row_at}
use Rattle.table.proofs.Tables.{Table}
use Rattle.semantics.specs.Cells.{Cell, absent, back, first}
use Rattle.semantics.specs.Runs.{Ticks, history, inputs}
use Rattle.semantics.proofs.Traces.{history_length}
use Rattle.runner.specs.declared.carried.Held.{Held}
use Rattle.runner.specs.Private.Carried.{held_at, look_for}
use Rattle.runner.specs.Private.Ready.{Views, Looked, Carries, Collected, AllCarry, Ready, looks_back}
use Rattle.runner.specs.Private.Placed.{Recalls, cell_before, Backward, Near}
use Rattle.runner.proofs.Decoded.{one_of_lem}
use Rattle.runner.proofs.Views.{view_looks, lag_of}
use Rattle.runner.proofs.Lists.{Listed}
use Rattle.runner.proofs.Tabled.{row_of_lem}

module _ (room n t : ℕ) (past : Ticks) (ms vs : List ℕ) (z : length past ≡ t) (R : Recalls room n t past ms vs) where
  -- the cell of an earlier tick is that of the history
  before_is : (a d : ℕ) → a < n → 0 < d → d ≤ room → cell_before room n a d t ms vs ≡ back (history past a) (d - 1)
  before_is a d l p b = go (try (leb d t))
    where
      go : Tried (leb d t) → cell_before room n a d t ms vs ≡ back (history past a) (d - 1)
      go (failed e) = rw e (sym (get_or-eq_default (history past a) absent {n = d - 1} (omega (arith, history_length past a, leb-false d t e))))
      go (passed e) = rw e (R.cell a d l p (leb-true d t e) b)

  -- and what a view has looked for is c's cell, as many ticks before as c began before a
  module _ (a c w : ℕ) (pos : 0 < w) (h : Held) (l : c < n) (views : Views w (history past a) (history past c) h)
      (near : (s r : ℕ) → first (history past a) ≡ some s → first (history past c) ≡ some r → s ≤ r + room) where
    abbrev seen : Cell
    seen = cell_before room n c h.y t ms vs

    looked_for : look_for w t seen h ≡ look_for w t (back (history past c) (h.y - 1)) h
    looked_for = go (try (eqb t h.x)) (try (eqb h.y 0)) (try (leb h.y t))
      where
        go : Tried (eqb t h.x) → Tried (eqb h.y 0) → Tried (leb h.y t) → look_for w t seen h ≡ look_for w t (back (history past c) (h.y - 1)) h
        go (failed e) y k = rw e
        go (passed e) (passed y) k = rw (e, y)
        go (passed e) (failed y) (failed k) = rw (e, y, k)
        go (passed e) (failed y) (passed k) =
            let some_lag : (h.y ≡ 0 → ⊥) = eqb-false _ _ y in
            let p : 0 < h.y = omega arith in
            let q : h.y ≤ t = leb-true _ _ k in
            let due : t ≡ h.x = eqb-true _ _ e in
            let g = lag_of w (history past a) (history past c) h views (omega arith) in
            ap (λ (x : Cell). look_for w t x h) (before_is c h.y l p (omega (arith, near g.0 g.1 g.2 g.3, g.4)))

    sighted : Views w (history past a) (history past c) (look_for w t seen h) × Looked (length (history past a)) (look_for w t seen h)
    sighted =
        let t' : length (history past a) ≡ t = history_length past a ∙ z in
        subst (λ (x : Held). Views w (history past a) (history past c) x × Looked (length (history past a)) x) (sym looked_for)
        (subst (λ (i : ℕ). Views w (history past a) (history past c) (look_for w i (back (history past c) (h.y - 1)) h)
        × Looked (length (history past a)) (look_for w i (back (history past c) (h.y - 1)) h)) t'
        (view_looks w pos (history past a) (history past c) (history_length past a ∙ sym (history_length past c)) h views))

-- what a row has before tick t, once it has looked back
abbrev Prepared : List Row → Ticks → ℕ → ℕ → Row → Held → Type 0
Prepared rows past t f row w = Carries rows f row t (history past) w × Collected row (history past) w

pub record Collecting (list : List ℕ) (rows : List Row) (past : Ticks) (t : ℕ) (s₀ s : List Held) (j : ℕ) : Type 0 where
  pub done : (i : ℕ) → i < j → Prepared rows past t (get_or list i 0) (row_at rows (get_or list i 0)) (held_at s (get_or list i 0))
  pub left : (g : ℕ) → ((i : ℕ) → i < j → get_or list i 0 ≡ g → ⊥) → held_at s g ≡ held_at s₀ g

-- a row that looks back is a later row or a view
data Backs (k p q r : ℕ) (row : Row) : Type 0 where
  is_later : k ≡ 10 → row ≡ later p q → Backs k p q r row
  is_view : (k ≡ 10 → ⊥) → (u : Bool) → row ≡ view u p q r → Backs k p q r row

later_or_view : (k p q r : ℕ) → looks_back k ≡ true → k < kind_count → Backs k p q r (decode k p q r)
unfolding kinds
later_or_view k p q r h l = go (one_of_lem 10 first_view k h)
  where
    go : (k ≡ 10) ⊎ (first_view ≤ k) → Backs k p q r (decode k p q r)
    go (inl e) = is_later e (ap (λ (i : ℕ). decode i p q r) e)
    go (inr m) = by (eq-or-lt_of_le {n = first_view} {m = k} m)
      where
        by : (first_view ≡ k) ⊎ (first_view < k) → Backs k p q r (decode k p q r)
        by (inl e) = is_view (λ x. omega arith) true (ap (λ (i : ℕ). decode i p q r) (sym e))
        by (inr m) = let e : k ≡ 18 = omega arith in is_view (λ x. omega arith) false (ap (λ (i : ℕ). decode i p q r) e)

module _ (n : ℕ) (words list : List ℕ) (rows : List Row) (T : Table n words rows) (I : Listed looks_back n words list) where
  -- row number j of the list, its kind and its fields
  abbrev at : ℕ → ℕ
  at j = get_or list j 0

  abbrev kind : ℕ → ℕ
  kind j = get_or words (row_size * at j) 0

  abbrev one : ℕ → ℕ
  one j = get_or words (row_size * at j + 1) 0

  abbrev two : ℕ → ℕ
  two j = get_or words (row_size * at j + 2) 0

  abbrev three : ℕ → ℕ
  three j = get_or words (row_size * at j + 3) 0

  backs : (j : ℕ) → j < length list → Backs (kind j) (one j) (two j) (three j) (row_at rows (at j))
  backs j h =
      let r = row_of_lem n words rows T (at j) (I.within j h) in
      subst (Backs (kind j) (one j) (two j) (three j)) r.made (later_or_view (kind j) (one j) (two j) (three j) (I.kind j h) r.known)

  fits_at_lem : (j : ℕ) (h : j < length list) (row : Row) → row_at rows (at j) ≡ row → Fits n (at j) row
  fits_at_lem j h row e = subst (Fits n (at j)) e (row_of_lem n words rows T (at j) (I.within j h)).fits

  -- the flow that is looked at is low, and a view period small
  pub operand_low : (j : ℕ) → j < length list → (kind j ≡ 10 → one j < n) × ((kind j ≡ 10 → ⊥) → (two j < n) × (three j ≤ max_field))
  operand_low j h = go (backs j h)
    where
      go : Backs (kind j) (one j) (two j) (three j) (row_at rows (at j)) → (kind j ≡ 10 → one j < n) × ((kind j ≡ 10 → ⊥) → (two j < n) × (three j ≤ max_field))
      go (is_later e q) = let f = fits_at_lem j h (later (one j) (two j)) q in (λ x. omega (arith, f.0, I.within j h), λ x. absurd (x e))
      go (is_view e u q) =
          let f = fits_at_lem j h (view u (one j) (two j) (three j)) q in
          (λ x. absurd (e x), λ x. (omega (arith, f.1, I.within j h), f.2.upto))

  module _ (room : ℕ) (past : Ticks) (ms vs : List ℕ) (s₀ : List Held) (t at-log : ℕ) (wide : max_field ≤ room) (z : length past ≡ t) (p : at-log ≡ t * inputs rows)
      (R : Recalls room n t past ms vs) (N : Near room rows past) (C : AllCarry rows t past s₀) where
    pub starts : Collecting list rows past t s₀ s₀ 0
    starts = record { done = λ i l. absurd (omega arith); left = λ g e. refl }

    module _ (s : List Held) (j : ℕ) (L : Collecting list rows past t s₀ s j) where
      pub goes_on : (low : j < length list) (h : Held) → at j < length s → Backward room n (kind j) (one j) (two j) (three j) t ms vs (held_at s (at j)) h
          → Collecting list rows past t s₀ (set s (at j) h) (j + 1)
      unfolding Carries AllCarry
      goes_on low h has B =
          record {
            done = λ i b. ⊎_elim (here i) (there i) (eq-or-lt_of_le {n = i} {m = j} (omega arith));
            left = λ g b. get_or-set_other s (at j) g h _ (λ u. b j (omega arith) (sym u)) ∙ L.left g (λ i k. b i (omega arith));
          }
        where
          there : (i : ℕ) → i < j → Prepared rows past t (at i) (row_at rows (at i)) (held_at (set s (at j) h) (at i))
          there i b =
              subst (λ (w : Held). Prepared rows past t (at i) (row_at rows (at i)) w)
              (sym (get_or-set_other s (at j) (at i) h _ (λ e. omega (arith, I.rising i j b low)))) (L.done i b)

          same : held_at s (at j) ≡ held_at s₀ (at j)
          same = L.left (at j) (λ i b e. omega (arith, I.rising i j b low))

          prepared : Backs (kind j) (one j) (two j) (three j) (row_at rows (at j)) → Prepared rows past t (at j) (row_at rows (at j)) h
          prepared (is_later k q) =
              subst (λ (row : Row). Prepared rows past t (at j) row h) (sym q) (
                tt,
                record {
                  of_later =
                      λ a d e b.
                      let x : one j ≡ a = cc in
                      let y : two j ≡ d = cc in
                      rw (← x, ← y)
                      (B.fetched k
                      ∙ before_is room n t past ms vs z R (one j) (two j) ((operand_low j low).0 k) (omega arith)
                      (omega (arith, wide, (fits_at_lem j low (later (one j) (two j)) q).1)));
                  of_view = λ u a c v e. absurd (let y : ◌≡◌ {A = ℕ} 0 1 = cc in omega arith);
                },
              )
          prepared (is_view k u q) =
              let f = fits_at_lem j low (view u (one j) (two j) (three j)) q in
              let few : at j < length rows = omega (arith, T.size, I.within j low) in
              let views : Views (three j) (history past (one j)) (history past (two j)) (held_at s (at j)) =
              subst (Views (three j) (history past (one j)) (history past (two j))) (sym same)
              (subst (λ (row : Row). Carries rows (at j) row t (history past) (held_at s₀ (at j))) q (C (at j) few)) in
              let S = sighted room n t past ms vs z R (one j) (two j) (three j) f.2.from (held_at s (at j)) ((operand_low j low).1 k).0 views
              (λ a b. N.lag (at j) u (one j) (two j) (three j) a b few q) in
              subst (λ (row : Row). Prepared rows past t (at j) row h) (sym q)
              (subst (λ (x : Held). Prepared rows past t (at j) (view u (one j) (two j) (three j)) x) (sym (B.sighted k)) (
                S.0,
                record {
                  of_later = λ a d e b. absurd (let y : ◌≡◌ {A = ℕ} 0 1 = cc in omega arith);
                  of_view = λ u' a c v e. let x : one j ≡ a = cc in rw (← x) S.1;
                },
              ))

          here : (i : ℕ) → i ≡ j → Prepared rows past t (at i) (row_at rows (at i)) (held_at (set s (at j) h) (at i))
          here i u =
              subst (λ (m : ℕ). Prepared rows past t (at m) (row_at rows (at m)) (held_at (set s (at j) h) (at m))) (sym u)
              (subst (Prepared rows past t (at j) (row_at rows (at j))) (sym (get_or-set_same s (at j) h _ has)) (prepared (backs j low)))

      pub ends : length list ≤ j → j ≤ length list → Ready rows past t at-log s
      unfolding AllCarry
      ends l k = record { ticks = z; place = p; carried = λ g b. (ready g b).0; collected = λ g b. (ready g b).1 }
        where
          listed : (g : ℕ) → g < n → looks_back (get_or words (row_size * g) 0) ≡ true → (i : ℕ) × (i < j) × (at i ≡ g)
          listed g b e = let a : (i : ℕ) × (i < length list) × (at i ≡ g) = I.all g b e in (a.0, omega (arith, a.1), a.2)

          apart : (g : ℕ) → looks_back (get_or words (row_size * g) 0) ≡ false → (i : ℕ) → i < j → at i ≡ g → ⊥
          apart g e i b q =
              true≢false (sym (I.kind i (omega arith)) ∙ ap (λ (m : ℕ). looks_back (get_or words (row_size * m) 0)) q ∙ e)

          ready : (g : ℕ) → g < length rows → Prepared rows past t g (row_at rows g) (held_at s g)
          ready g b = go (try (looks_back (get_or words (row_size * g) 0)))
            where
              c : g < n
              c = omega (arith, T.size)

              go : Tried (looks_back (get_or words (row_size * g) 0)) → Prepared rows past t g (row_at rows g) (held_at s g)
              go (passed e) =
                  let q = listed g c e in
                  subst (λ (m : ℕ). Prepared rows past t m (row_at rows m) (held_at s m)) q.2 (L.done q.0 q.1)
              go (failed e) = (
                subst (λ (w : Held). Carries rows g (row_at rows g) t (history past) w) (sym (L.left g (apart g e))) (C g b),
                (row_of_lem n words rows T g c).no_look e (history past) (held_at s g),
              )

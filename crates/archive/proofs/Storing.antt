-- A column's due ticks gone through one after the other, and the words stored on the way, block by block. Assumes nothing.
use mathlib.Core.Path.{◌≡◌, refl, sym, ◌∙◌, ap, subst}
use Prim.Native.Nat.{ℕ, zero, suc, ◌+◌, ◌*◌, ◌-◌, ◌≤◌, ◌<◌}
use native.Mathlib.Nat.{suc-mul}
use native.Mathlib.Decide.{dec_lt}
use native.Mathlib.Numerals.{add-one}
use native.Mathlib.Omega.{arith}
use mathlib.Core.Bool.{cond}
use mathlib.Core.Logic.{◌⊎◌, inl, inr}
use mathlib.Core.List.{List, [], ◌∷◌, ◌++◌, append-nil}
use lib.ListN.{length, get_or, take, drop, set, length-drop, length-set}
use lib.Seq.{take-suc, take-add, get_or-set_same, get_or-set_other, get_or-drop, take-length}
use Rattle.table.specs.Bits.{bit}
use Rattle.table.specs.Plain.{per_flow}
use Rattle.table.proofs.Tests.{Tried, passed, failed, try}
use Rattle.checker.specs.Clocks.{Clock}
use Rattle.semantics.specs.Cells.{on_grid}
use Rattle.calendar.specs.Calendar.{cell_at}
use Rattle.archive.specs.Columns.{points, picked}
use Rattle.archive.specs.Traces.{column, words_before, stored_of}
use Rattle.archive.specs.declared.plan.Next.{Next}
use Rattle.archive.specs.Private.Steps.{period_in, phase_in, clocks_in, point, next_in, place_in, next_at, moved_to, Taken, WordsTo}
use Rattle.archive.proofs.Grids.{more_points, tick_is, point_below, point_above}
use Rattle.archive.proofs.Held.{next_is, clock_at_lem, words_none, words_next, words_end, points_from}

-- DUE TICKS of period n from p on: `number` of them are done, t is the next, w the place of its word, where the first one's is `at`
pub record Stepping (n p end at t w number : ℕ) : Type 0 where
  pub few : number ≤ points n p end
  pub tick : t ≡ point n p number
  pub place : w ≡ at + number

module _ {n p end at t w number : ℕ} (pos : 0 < n) (s : Stepping n p end at t w number) where
  -- one that is below the end is counted
  pub step_in : t < end → number < points n p end
  step_in l =
      elim (dec_lt number (points n p end)) [ yes y ↦ y | no y ↦ absurd (omega (arith, point_above n p pos end number (omega arith), s.tick)) ]

  -- and its word has a place
  pub step_room : {q size : ℕ} → n ≡ q → at + points q p end ≤ size → t < end → w < size
  step_room e r l = omega (arith, ap (λ (i : ℕ). points i p end) e, step_in l, s.place)

  pub step_next : t < end → Stepping n p end at (t + n) (w + 1) (suc number)
  step_next l = record { few = step_in l; tick = omega (arith, s.tick, suc-mul number n); place = omega (arith, s.place) }

  pub step_all : {q : ℕ} → n ≡ q → end ≤ t → number ≡ points q p end
  step_all e l =
      elim (dec_lt number (points n p end)) [
        | yes y ↦ absurd (omega (arith, point_below n p pos end number y, s.tick))
        | no y ↦ omega (arith, s.few, ap (λ (i : ℕ). points i p end) e)
      ]

  pub step_end : {q : ℕ} → n ≡ q → end ≤ t
      → (let now : Next = record { tick = t; place = w } in let first : Next = record { tick = p; place = at } in now ≡ moved_to q first end)
  step_end {q} e l = let c : number ≡ points q p end = step_all e l in next_is (s.tick ∙ ap (λ (i : ℕ). p + number * i) e ∙ ap (point q p) c) (s.place ∙ ap (λ (i : ℕ). at + i) c)

-- THE WORDS OF A COLUMN
pub taken_next : {m n p f at c t w : ℕ} {values old stored : List ℕ} → t ≡ point n p c → w ≡ at + c → w < length stored → Taken m n p f at c values old stored
    → Taken m n p f at (suc c) values old (set stored w (get_or values (t * m + f) 0))
taken_next {m} {n} {p} {f} {at} {c} {t} {w} {values} {old} {stored} tick place l h =
    record {
      size = length-set stored w v ∙ h.size;
      words =
          λ j x.
          elim (dec_lt j c) [
            | yes y ↦ get_or-set_other stored w (at + j) v 0 (λ z. omega arith) ∙ h.words j y
            | no y ↦ let z : c ≡ j = omega arith in
                subst (λ (i : ℕ). get_or (set stored w v) (at + i) 0 ≡ cell_at m values (point n p i) f) z
                (ap (λ (i : ℕ). get_or (set stored w v) i 0) (sym place) ∙ get_or-set_same stored w v 0 l ∙ ap (λ (i : ℕ). cell_at m values i f) tick)
          ];
      others = λ x o. get_or-set_other stored w x v 0 (λ z. apart x o (omega arith)) ∙ h.others x (within x o);
    }
  where
    v : ℕ
    v = get_or values (t * m + f) 0

    apart : (x : ℕ) → (x < at) ⊎ (at + suc c ≤ x) → x ≡ at + c → ⊥
    apart x (inl y) z = omega arith
    apart x (inr y) z = omega arith

    within : (x : ℕ) → (x < at) ⊎ (at + suc c ≤ x) → (x < at) ⊎ (at + c ≤ x)
    within x (inl y) = inl y
    within x (inr y) = inr (omega arith)

-- a column's words by their numbers
picked_each : (n p : ℕ) → 0 < n → (column : ℕ → ℕ) (ticks : ℕ) → picked n p column ticks ≡ per_flow (λ (j : ℕ). column (point n p j)) (points n p ticks)
unfolding picked points per_flow
picked_each n p pos column zero = refl
picked_each n p pos column (suc t) = go (picked_each n p pos column t) (try (on_grid n p t))
  where
    c : ℕ
    c = points n p t

    each : ℕ → List ℕ
    each i = per_flow (λ (j : ℕ). column (point n p j)) i

    go : picked n p column t ≡ each c → Tried (on_grid n p t)
        → picked n p column t ++ cond (on_grid n p t) (column t ∷ []) [] ≡ each (c + bit (on_grid n p t))
    go h (passed e) =
        rw e
        (ap (λ (x : List ℕ). x ++ (column t ∷ [])) h
        ∙ ap (λ (v : ℕ). each c ++ (v ∷ [])) (ap column (tick_is n p pos t e))
        ∙ ap each (sym (add-one c)))
    go h (failed e) = let q : c ≡ c + 0 = omega arith in rw e (append-nil _ ∙ h ∙ ap each q)

-- the first words of a list, each of which is known
take_each : (l : List ℕ) (make : ℕ → ℕ) (c : ℕ) → c ≤ length l → ((j : ℕ) → j < c → get_or l j 0 ≡ make j) → take c l ≡ per_flow make c
unfolding per_flow
take_each l make zero b h = refl
take_each l make (suc c) b h =
    take-suc l c 0 (omega arith)
    ∙ ap (λ (x : List ℕ). x ++ (get_or l c 0 ∷ [])) (take_each l make c (omega arith) (λ j k. h j (omega arith)))
    ∙ ap (λ (v : ℕ). per_flow make c ++ (v ∷ [])) (h c (omega arith))

-- THE WORDS OF ALL FLOWS
module _ (m : ℕ) (clocks values : List ℕ) (ticks : ℕ) where
  abbrev ks : List Clock
  ks = clocks_in m clocks

  pub words_begin : (stored : List ℕ) → WordsTo m clocks values ticks 0 stored
  unfolding points
  words_begin stored = record { words = λ g j l k. absurd (omega arith) }

  stored_next : (f : ℕ) → f < m → stored_of ks m values ticks (suc f) ≡ stored_of ks m values ticks f ++ picked (period_in clocks f) (phase_in clocks f) (column m values f) ticks
  unfolding stored_of
  stored_next f l = ap (λ (k : Clock). stored_of ks m values ticks f ++ picked k.period k.phase (column m values f) ticks) (clock_at_lem m clocks f l)

  stored_none : [] ≡ stored_of ks m values ticks 0
  unfolding stored_of
  stored_none = refl

  -- a list of that length that has every word is the stored one
  pub stored_is : (stored : List ℕ) → ((f : ℕ) → f < m → 0 < period_in clocks f) → length stored ≡ words_before ks ticks m → WordsTo m clocks values ticks ticks stored
      → stored ≡ stored_of ks m values ticks m
  stored_is stored pos e h = sym (ap (λ (i : ℕ). take i stored) (sym e) ∙ take-length stored) ∙ go m (omega arith)
    where
      go : (f : ℕ) → f ≤ m → take (words_before ks ticks f) stored ≡ stored_of ks m values ticks f
      go zero l = ap (λ (i : ℕ). take i stored) (words_none m clocks ticks) ∙ stored_none
      go (suc f) l =
          let n : ℕ = period_in clocks f in
          let p : ℕ = phase_in clocks f in
          let w : ℕ = words_before ks ticks f in
          let s : words_before ks ticks (suc f) ≡ w + points n p ticks = ap (words_before ks ticks) (sym (add-one f)) ∙ words_next m clocks ticks f l in
          ap (λ (i : ℕ). take i stored) s
          ∙ take-add w (points n p ticks) stored
          ∙ ap (λ (x : List ℕ). x ++ take (points n p ticks) (drop w stored)) (go f (omega arith))
          ∙ ap (λ (x : List ℕ). stored_of ks m values ticks f ++ x)
          (take_each (drop w stored) (λ (j : ℕ). column m values f (point n p j)) (points n p ticks)
          (omega (arith, length-drop w stored, words_end m clocks ticks f m l (omega arith)))
          (λ j k. get_or-drop w stored j 0 ∙ h.words f j l k)
          ∙ sym (picked_each n p (pos f l) (column m values f) ticks))
          ∙ sym (stored_next f l)

  -- A BLOCK: the words of the ticks before it, and of its flows before f those up to its end
  pub record Worded (begin end f : ℕ) (stored : List ℕ) : Type 0 where
    pub early : WordsTo m clocks values ticks begin stored
    pub inside : (g j : ℕ) → g < f → j < points (period_in clocks g) (phase_in clocks g) end
        → get_or stored (words_before ks ticks g + j) 0 ≡ cell_at m values (point (period_in clocks g) (phase_in clocks g) j) g

  module _ (begin end : ℕ) (a : begin ≤ end) (b : end ≤ ticks) where
    pub block_end : (f : ℕ) (stored : List ℕ) → m ≤ f → Worded begin end f stored → WordsTo m clocks values ticks end stored
    block_end f stored e h = record { words = λ g j l k. h.inside g j (omega arith) k }

    module _ (f : ℕ) (l : f < m) (pos : 0 < period_in clocks f) (from : Next) (on : from ≡ next_at m clocks ticks begin f)
        (old stored : List ℕ) (h : Worded begin end f old)
        (column-taken : Taken m (period_in clocks f) from.tick f from.place (points (period_in clocks f) from.tick end) values old stored) where
      taken :
          Taken m (period_in clocks f) (next_in clocks begin f) f (place_in m clocks ticks begin f) (points (period_in clocks f) (next_in clocks begin f) end) values old stored
      taken =
          subst (λ (k : Next). Taken m (period_in clocks f) k.tick f k.place (points (period_in clocks f) k.tick end) values old stored) on column-taken

      -- how many words flow g has before a tick
      abbrev count : ℕ → ℕ → ℕ
      count g t = points (period_in clocks g) (phase_in clocks g) t

      fewer : (g s t : ℕ) → s ≤ t → count g s ≤ count g t
      fewer g = more_points (period_in clocks g) (phase_in clocks g)

      at : ℕ
      at = place_in m clocks ticks begin f

      size : ℕ
      size = points (period_in clocks f) (next_in clocks begin f) end

      ends : at + size ≡ words_before ks ticks f + count f end
      unfolding at size
      ends = omega (arith, points_from (period_in clocks f) (phase_in clocks f) pos begin end a)

      -- the other words are left
      left : (g j : ℕ) → g < m → j < count g ticks → (g ≡ f → j < count f begin)
          → get_or stored (words_before ks ticks g + j) 0 ≡ get_or old (words_before ks ticks g + j) 0
      unfolding at size
      left g j k x e = taken.others (words_before ks ticks g + j) (go (dec_lt g f) (dec_lt f g))
        where
          go : Dec (g < f) → Dec (f < g) → (words_before ks ticks g + j < at) ⊎ (at + size ≤ words_before ks ticks g + j)
          go (yes y) z = inl (omega (arith, words_end m clocks ticks g f y (omega arith)))
          go (no y) (yes z) = inr (omega (arith, words_end m clocks ticks f g z (omega arith), ends, fewer f end ticks b))
          go (no y) (no z) = let q : g ≡ f = omega arith in inl (omega (arith, e q, ap (words_before ks ticks) q))

      own : (j : ℕ) → j < count f end → Dec (j < count f begin)
          → get_or stored (words_before ks ticks f + j) 0 ≡ cell_at m values (point (period_in clocks f) (phase_in clocks f) j) f
      own j k (yes y) = left f j l (omega (arith, fewer f end ticks b)) (λ q. y) ∙ h.early.words f j l y
      own j k (no y) =
          let c : ℕ = count f begin in
          let i : ℕ = j - c in
          let q : c + i ≡ j = omega arith in
          let u : words_before ks ticks f + j ≡ place_in m clocks ticks begin f + i = omega arith in
          ap (λ (x : ℕ). get_or stored x 0) u
          ∙ taken.words i (omega (arith, points_from (period_in clocks f) (phase_in clocks f) pos begin end a))
          ∙ ap (λ (x : ℕ). cell_at m values x f) (omega (arith, ap (λ (x : ℕ). x * period_in clocks f) q))

      pub words_more : Worded begin end (f + 1) stored
      words_more =
          record {
            early = record {
              words = λ g j k x.
                  left g j k (omega (arith, fewer g begin ticks (omega arith))) (λ q. subst (λ (i : ℕ). j < count i begin) q x) ∙ h.early.words g j k x;
            };
            inside =
                λ g j k x.
                elim (dec_lt g f) [
                  | yes y ↦ left g j (omega arith) (omega (arith, fewer g end ticks b)) (λ q. absurd (omega arith)) ∙ h.inside g j y x
                  | no y ↦ let q : f ≡ g = omega arith in
                      subst (λ (i : ℕ). j < count i end → get_or stored (words_before ks ticks i + j) 0 ≡ cell_at m values (point (period_in clocks i) (phase_in clocks i) j) i) q
                      (λ z. own j z (dec_lt j (count f begin))) x
                ];
          }

-- The check's two passes: the clocks row by row, and the registers' sources. Assumes nothing.
use mathlib.Core.Path.{◌≡◌, refl, sym, ◌∙◌, ap, subst}
use Prim.Native.Nat.{ℕ, zero, suc, ◌+◌, ◌%◌, ◌≤◌, ◌<◌}
use native.Mathlib.Numerals.{add-one}
use native.Mathlib.Omega.{arith}
use mathlib.Core.Bool.{Bool, true, false}
use mathlib.Core.List.{List, [], ◌∷◌, ◌++◌, map}
use mathlib.Core.Option.{none, some}
use lib.ListN.{length, take, drop, set, get_or, length-append, length-set, drop_of_length-le}
use lib.Seq.{drop-cons, take-suc-set}
use Rattle.std.specs.Prelude.{Ok, Err}
use Rattle.std.proofs.lemmas.List.{get_or-map, get_or-take, map-append}
use Rattle.table.specs.Tables.{row_at}
use Rattle.table.specs.declared.refusal.Refusal.{Refusal}
use Rattle.table.specs.Answers.{Result, good, refused, answer, success, refusal}
use Rattle.table.proofs.Tests.{not_good, good_inj}
use Rattle.table.specs.Rows.{Row, tail, Words, bad_register, on_register, max_flows}
use Rattle.table.specs.Plain.{row_words}
use Rattle.table.proofs.Tables.{Table, Made}
use Rattle.checker.specs.Clocks.{Clock, every}
use Rattle.checker.specs.Rules.{clock_of, clock_at, clocks_from, Within, AllWithin}
use Rattle.checker.specs.declared.Clock.{Clock as Kept}
use Rattle.checker.specs.Private.Kept as Kept
use Rattle.checker.proofs.Agree.{Agrees}
use Rattle.checker.proofs.ByRow.{row_agrees}

-- the clock of a flow, read from those kept
pub kept_read : (ks : List Clock) (buffer : List Kept) (g : ℕ) → take (length ks) buffer ≡ map Kept.kept ks → length ks ≤ max_flows → g < length ks
    → Kept.kept_at buffer g ≡ Kept.kept (clock_at ks g)
kept_read ks buffer g held few l =
    let e : g % max_flows ≡ g = omega arith in
    ap (λ (i : ℕ). get_or buffer i (Kept.every 0 0)) e
    ∙ sym (get_or-take (length ks) buffer g (Kept.every 0 0) l)
    ∙ ap (λ (l : List Kept). get_or l g (Kept.every 0 0)) held
    ∙ get_or-map Kept.kept ks g (every 1 0) (Kept.every 0 0) l

-- ---- the clocks row by row

-- at row f: the clocks of those before, kept, within the limits, and what is left of the rows comes to the whole
pub record Going (rows : List Row) (f : ℕ) (buffer : List Kept) : Type 0 where
  pub clocks : List Clock
  pub size : length clocks ≡ f
  pub full : length buffer ≡ max_flows
  pub held : take f buffer ≡ map Kept.kept clocks
  pub within : AllWithin clocks
  pub left : clocks_from clocks (drop f rows) ≡ clocks_from [] rows

pub start : (rows : List Row) (buffer : List Kept) → length buffer ≡ max_flows → Going rows 0 buffer
start rows buffer e = record { clocks = []; size = refl; full = e; held = refl; within = λ (f : ℕ). λ (l : f < 0). absurd (omega arith); left = refl }

step_good : (ks : List Clock) (r : Row) (rs : List Row) (f : ℕ) (k : Clock) → length ks ≡ f → clock_of (clock_at ks) f r ≡ good k
    → clocks_from ks (r ∷ rs) ≡ clocks_from (ks ++ (k ∷ [])) rs
unfolding clocks_from
step_good ks r rs f k s e = rw (s, e)

step_refused : (ks : List Clock) (r : Row) (rs : List Row) (f : ℕ) (why : Refusal) (g : ℕ) → length ks ≡ f → clock_of (clock_at ks) f r ≡ refused why g
    → clocks_from ks (r ∷ rs) ≡ refused why g
unfolding clocks_from
step_refused ks r rs f why g s e = rw (s, e)

within_snoc : (ks : List Clock) (k : Clock) → AllWithin ks → Within k → AllWithin (ks ++ (k ∷ []))
within_snoc [] k h w zero l = w
within_snoc [] k h w (suc f) l = absurd (omega arith)
within_snoc (j ∷ ks) k h w zero l = h 0 (omega arith)
within_snoc (j ∷ ks) k h w (suc f) l = within_snoc ks k (λ (g : ℕ). λ (i : g < length ks). h (suc g) (omega arith)) w f (omega arith)

-- the row at f, as its verdict goes
module _ (m : ℕ) (words : List ℕ) (rows : List Row) (f : ℕ) (buffer : List Kept) (t : Table m words rows) (s : Going rows f buffer) (l : f < m) where
  pub verdict_agrees : (w : Words) → w ≡ row_words words f
      → Agrees f (Kept.rule (Kept.kept_at buffer) w.kind w.one w.two w.three) (clock_of (clock_at s.clocks) f (row_at rows f))
  verdict_agrees w e =
      row_agrees m f (omega (arith, t.few)) (clock_at s.clocks) (Kept.kept_at buffer)
      (λ (g : ℕ). λ (i : g < f). kept_read s.clocks buffer g (rw s.size s.held) (omega (arith, s.size, t.few)) (omega (arith, s.size)))
      (λ (g : ℕ). λ (i : g < f). s.within g (omega (arith, s.size)))
      w (row_at rows f) (subst (λ (v : Words). Made m f v (row_at rows f)) (sym e) (t.row_at_lem f l))

  rows_here : drop f rows ≡ row_at rows f ∷ drop (suc f) rows
  rows_here = drop-cons rows f (tail 0) (omega (arith, t.size))

  pub go_on : (k : Clock) → clock_of (clock_at s.clocks) f (row_at rows f) ≡ good k → Within k → Going rows (f + 1) (set buffer f (Kept.kept k))
  go_on k e w =
      let ks : List Clock = s.clocks in
      record {
        clocks = ks ++ (k ∷ []);
        size = length-append ks (k ∷ []) ∙ ap (λ (i : ℕ). i + 1) s.size;
        full = length-set buffer f (Kept.kept k) ∙ s.full;
        held = ap (λ (i : ℕ). take i (set buffer f (Kept.kept k))) (add-one f)
            ∙ take-suc-set buffer f (Kept.kept k) (omega (arith, s.full, t.few))
            ∙ ap (λ (l : List Kept). l ++ (Kept.kept k ∷ [])) s.held ∙ sym (map-append Kept.kept ks (k ∷ []));
        within = within_snoc ks k s.within w;
        left = ap (λ (i : ℕ). clocks_from (ks ++ (k ∷ [])) (drop i rows)) (add-one f)
            ∙ sym (step_good ks (row_at rows f) (drop (suc f) rows) f k s.size e) ∙ ap (clocks_from ks) (sym rows_here) ∙ s.left;
      }

  pub stopped : (why : Refusal) (g : ℕ) → clock_of (clock_at s.clocks) f (row_at rows f) ≡ refused why g → clocks_from [] rows ≡ refused why g
  stopped why g e =
      sym s.left ∙ ap (clocks_from s.clocks) rows_here ∙ step_refused s.clocks (row_at rows f) (drop (suc f) rows) f why g s.size e

  -- the verdict is a clock, which was kept
  pub next : (w : Words) → w ≡ row_words words f → (k : Kept) → Ok k ≡ Kept.rule (Kept.kept_at buffer) w.kind w.one w.two w.three
      → Going rows (f + 1) (set buffer f k)
  next w e k v = go (clock_of (clock_at s.clocks) f (row_at rows f)) refl (verdict_agrees w e)
    where
      go : (r : Result Clock) → clock_of (clock_at s.clocks) f (row_at rows f) ≡ r
          → Agrees f (Kept.rule (Kept.kept_at buffer) w.kind w.one w.two w.three) r → Going rows (f + 1) (set buffer f k)
      go (good j) r a = let same : k ≡ Kept.kept j = cc (v ∙ a.0) in rw same (go_on j r a.1)
      go (refused why g) r a = absurd (cc (v ∙ a.0))

  -- the verdict is a refusal
  pub stop : (w : Words) → w ≡ row_words words f → (n : Refusal) → Err n ≡ Kept.rule (Kept.kept_at buffer) w.kind w.one w.two w.three
      → (refusal n f ≡ answer length (clocks_from [] rows)) × ((ks : List Clock) → clocks_from [] rows ≡ good ks → ⊥)
  stop w e n v = go (clock_of (clock_at s.clocks) f (row_at rows f)) refl (verdict_agrees w e)
    where
      go : (r : Result Clock) → clock_of (clock_at s.clocks) f (row_at rows f) ≡ r
          → Agrees f (Kept.rule (Kept.kept_at buffer) w.kind w.one w.two w.three) r
          → (refusal n f ≡ answer length (clocks_from [] rows)) × ((ks : List Clock) → clocks_from [] rows ≡ good ks → ⊥)
      go (good j) r a = absurd (cc (v ∙ a.0))
      go (refused why g) r a =
          let same : n ≡ why = cc (v ∙ a.0) in
          let at : g ≡ f = a.1 in
          let whole : clocks_from [] rows ≡ refused why g = stopped why g r in
          (rw (whole, same, at), λ (ks : List Clock). λ (x : clocks_from [] rows ≡ good ks). absurd (not_good (sym whole ∙ x)))

-- all rows have clocks
pub ended : (rows : List Row) (f : ℕ) (buffer : List Kept) → length rows ≡ f → (s : Going rows f buffer) → clocks_from [] rows ≡ good s.clocks
unfolding clocks_from
ended rows f buffer e s =
    let d : drop f rows ≡ [] = drop_of_length-le rows {i = f} (omega arith) in
    sym s.left ∙ ap (clocks_from s.clocks) d

pub finish : (rows : List Row) (f : ℕ) (buffer : List Kept) → length rows ≡ f → Going rows f buffer
    → (success f ≡ answer length (clocks_from [] rows)) × Kept.Assigned (clocks_from [] rows) buffer
finish rows f buffer e s = (rw (whole, s.size), given)
  where
    whole : clocks_from [] rows ≡ good s.clocks
    whole = ended rows f buffer e s

    given : Kept.Assigned (clocks_from [] rows) buffer
    given ks x =
        subst (λ (l : List Clock). (take (length l) buffer ≡ map Kept.kept l) × AllWithin l) (good_inj (sym whole ∙ x))
        (rw s.size s.held, s.within)

-- ---- the registers' sources

pub bad_next : (test : ℕ → ℕ → Bool) (f : ℕ) (rows : List Row) → f < length rows → on_register test (row_at rows f) ≡ true
    → bad_register test f (drop f rows) ≡ bad_register test (f + 1) (drop (f + 1) rows)
unfolding bad_register
bad_next test f rows l e = rw (drop-cons rows f (tail 0) l, e, add-one f)

pub bad_here : (test : ℕ → ℕ → Bool) (f : ℕ) (rows : List Row) → f < length rows → on_register test (row_at rows f) ≡ false
    → bad_register test f (drop f rows) ≡ some f
unfolding bad_register
bad_here test f rows l e = rw (drop-cons rows f (tail 0) l, e)

pub bad_none : (test : ℕ → ℕ → Bool) (f : ℕ) (rows : List Row) → length rows ≡ f → bad_register test f (drop f rows) ≡ none
unfolding bad_register
bad_none test f rows e = let d : drop f rows ≡ [] = drop_of_length-le rows {i = f} (omega arith) in rw d

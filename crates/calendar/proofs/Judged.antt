-- A plan free of sampling, merging and views whose clocks differ clashes within the judging ticks. Assumes nothing.
use mathlib.Core.Path.{◌≡◌, refl, sym, ◌∙◌, ap, subst}
use Prim.Native.Nat.{ℕ, suc, ◌+◌, ◌*◌, ◌-◌, ◌≤◌, ◌<◌}
use native.Mathlib.Decide.{dec_lt}
use native.Mathlib.Omega.{arith}
use mathlib.Core.Bool.{Bool, true, false, true≢false, false≢true}
use mathlib.Core.List.{List, [], ◌∷◌, ◌++◌, append-nil}
use mathlib.Core.Option.{none}
use lib.ListN.{length, length-append}
use lib.Dec.{eqb}
use borrow.Author.Tests.{eqb-false}
use Rattle.table.specs.declared.refusal.Refusal.{Refusal}
use Rattle.table.specs.declared.refusal.Refusal.TheVariants.{ClocksDiffer, BeyondLimits, NotPlain}
use Rattle.table.specs.Answers.{Result, good, refused, unless}
use Rattle.table.specs.Rows.{Row, input, constant, combine, register, faster, slower, later, head, tail, sample, merge, unrated, view, on_register}
use Rattle.table.proofs.Tests.{beq_true}
use Rattle.table.proofs.Lists.{Each, each_front, each_at}
use Rattle.table.proofs.Registers.{RegisterOr, is_register_lem, is_other, register_or, Passes, Registers, all_pass, registers}
use Rattle.table.specs.Tables.{Fits}
use Rattle.table.proofs.Tables.{AllFit}
use Rattle.checker.specs.Clocks.{Clock, every, same_clock}
use Rattle.checker.specs.Rules.{max_derived, within_limits, limited, clock_of, clock_at, source_fits, clocks_of}
use Rattle.checker.proofs.ClockLaws.{plain_differ}
use Rattle.checker.proofs.CheckLaws.{Clocked, Sane, AllSane, all_sane, Checked, fine, bad_row, bad_source, checked}
use Rattle.semantics.specs.Cells.{mark, on_grid}
use Rattle.semantics.specs.Operators.{clashes}
use Rattle.semantics.specs.Runs.{Tick, Ticks, cell_in, history, cell_of, filled, flows_from, source_meets, tick_of, done, run}
use Rattle.calendar.specs.Calendar.{judging_ticks}
use Rattle.semantics.proofs.Traces.{history_length}
use Rattle.calendar.proofs.Grid.{Parted, parted}
use Rattle.calendar.proofs.Flows.{Regular, faster_clash, head_early, head_clash}
use Rattle.calendar.proofs.Dues.{due_plain, combined_clash}
use Rattle.calendar.proofs.Keeping.{Kept, regular}
use Rattle.calendar.proofs.Endings.{not_filled, Last, last, ended_before, tick_parts, front_of, front_kept, front_filled}
use Rattle.calendar.proofs.Endings.{tick_kept, run_kept}
use Rattle.calendar.proofs.Unconditional.{FreeRow, AllFree, AllPlain, all_plain}

-- what a refusal with 21 says of the tests before it
good_refused : {A B : Type 0} {a : A} {why : Refusal} {f : ℕ} → good a ≡ refused why f → B
good_refused e = absurd (let z : ◌≡◌ {A = ℕ} 0 1 = cc in omega arith)

failed_test : (b : Bool) (why why' : Refusal) (f g : ℕ) (k : Clock) → unless b why f (good k) ≡ refused why' g → b ≡ false
failed_test true why why' f g k e = good_refused e
failed_test false why why' f g k e = refl

passed_test : (b : Bool) (why why' : Refusal) (f g : ℕ) (v : Result Clock) → b ≡ true → unless b why f v ≡ refused why' g → v ≡ refused why' g
passed_test true why why' f g v p e = e
passed_test false why why' f g v p e = absurd (false≢true p)

not_limited : (f g : ℕ) (k : Clock) → limited f k ≡ refused ClocksDiffer g → ⊥
not_limited f g k e = go (within_limits k) e
  where
    go : (b : Bool) → unless b BeyondLimits f (good k) ≡ refused ClocksDiffer g → ⊥
    go true e = good_refused e
    go false e = let z : ◌≡◌ {A = ℕ} 0 1 = cc in omega arith

-- a row that clashes at a tick soon, where the flows before it keep their clocks
record Clashing (rows : List Row) (log : List ℕ) (clk : ℕ → Clock) (f : ℕ) (r : Row) : Type 0 where
  tick : ℕ
  soon : tick ≤ 2 * max_derived
  clash : (past : Ticks) (now : Tick) → length past ≡ tick → Kept clk f (now ∷ past) → cell_of rows log past now r ≡ clashes

module _ (rows : List Row) (log : List ℕ) (clk : ℕ → Clock) (f : ℕ) (sane : AllSane clk f) (flat : AllPlain clk f) where
  regular_at : (a : ℕ) → a < f → (past : Ticks) (now : Tick) → Kept clk f (now ∷ past) → Regular (clk a).period (clk a).phase (cell_in now a ∷ history past a)
  regular_at a l past now k = regular clk now past a (flat a l) (k a l)

  parting : (a b : ℕ) → a < f → b < f → same_clock (clk a) (clk b) ≡ false → Parted (clk a).period (clk a).phase (clk b).period (clk b).phase max_derived
  parting a b l m e =
      let x : Sane clk a (clk a) = sane a l in
      let y : Sane clk b (clk b) = sane b m in
      parted _ _ _ _ max_derived x.period_fits x.phase_fits y.period_fits y.phase_fits x.positive y.positive (plain_differ (clk a) (clk b) (flat a l) (flat b m) e)

  -- there one is present and not the other
  marks_part : (a b : ℕ) → a < f → b < f → (p : Parted (clk a).period (clk a).phase (clk b).period (clk b).phase max_derived)
      → (past : Ticks) (now : Tick) → length past ≡ p.tick → Kept clk f (now ∷ past) → mark (cell_in now a) ≡ mark (cell_in now b) → ⊥
  marks_part a b l m p past now e k q =
      p.apart (subst (λ (t : ℕ). on_grid (clk a).period (clk a).phase t ≡ on_grid (clk b).period (clk b).phase t) e (sym (on a l) ∙ q ∙ on b m))
    where
      on : (a : ℕ) → a < f → mark (cell_in now a) ≡ on_grid (clk a).period (clk a).phase (length past)
      on a l = (k a l).0 ∙ due_plain clk (clk a) now past (flat a l)

  head_clashing : (a v s : ℕ) → a < f → ((clk a).phase ≡ s + (clk a).period → ⊥) → Dec (s < (clk a).phase) → Clashing rows log clk f (head a v s)
  unfolding cell_of
  head_clashing a v s l d (yes y) =
      let z : Sane clk a (clk a) = sane a l in
      record {
        tick = (clk a).phase + (clk a).period;
        soon = omega arith;
        clash = λ past now t k. head_clash _ _ _ _ z.positive (regular_at a l past now k) v s y d (history_length past a ∙ t);
      }
  head_clashing a v s l d (no y) =
      let z : Sane clk a (clk a) = sane a l in
      record {
        tick = (clk a).phase;
        soon = omega arith;
        clash = λ past now t k. head_early _ _ _ _ (regular_at a l past now k) v s (omega arith) (history_length past a ∙ t);
      }

  row_clashing : (m g : ℕ) (r : Row) → Fits m f r → FreeRow r → clock_of clk f r ≡ refused ClocksDiffer g → Clashing rows log clk f r
  unfolding clock_of cell_of
  row_clashing m g (input n p) w x e = good_refused e
  row_clashing m g (constant v n p) w x e = good_refused e
  row_clashing m g (combine op a b) w x e =
      let p : Parted (clk a).period (clk a).phase (clk b).period (clk b).phase max_derived = parting a b w.0 w.1 (failed_test _ ClocksDiffer ClocksDiffer f g (clk a) e) in
      record { tick = p.tick; soon = p.soon; clash = λ past now t k. combined_clash op _ _ (λ q. marks_part a b w.0 w.1 p past now t k q) }
  row_clashing m g (register v b a) w x e = good_refused e
  row_clashing m g (faster a c gap) w x e =
      let s : Sane clk a (clk a) = sane a w.0 in
      let d : ((clk a).period ≡ c * gap → ⊥) =
      eqb-false _ _ (failed_test (eqb (clk a).period (c * gap)) ClocksDiffer ClocksDiffer f g _ (passed_test _ NotPlain ClocksDiffer f g _ (flat a w.0) e)) in
      record {
        tick = (clk a).phase + (clk a).period;
        soon = omega arith;
        clash = λ past now t k. faster_clash _ _ _ _ s.positive (regular_at a w.0 past now k) c gap d (history_length past a ∙ t);
      }
  row_clashing m g (slower a c) w x e = absurd (not_limited f g (every (c * (clk a).period) (clk a).phase) (passed_test _ NotPlain ClocksDiffer f g _ (flat a w.0) e))
  row_clashing m g (later a d) w x e = absurd (not_limited f g (every (clk a).period ((clk a).phase + d)) (passed_test _ NotPlain ClocksDiffer f g _ (flat a w.0) e))
  row_clashing m g (head a v s) w x e =
      let d : ((clk a).phase ≡ s + (clk a).period → ⊥) =
      eqb-false _ _ (failed_test (eqb (clk a).phase (s + (clk a).period)) ClocksDiffer ClocksDiffer f g _ (passed_test _ NotPlain ClocksDiffer f g _ (flat a w.0) e)) in
      head_clashing a v s w.0 d (dec_lt s (clk a).phase)
  row_clashing m g (tail a) w x e = absurd (not_limited f g (every (clk a).period ((clk a).phase + (clk a).period)) (passed_test _ NotPlain ClocksDiffer f g _ (flat a w.0) e))
  row_clashing m g (sample u a c) w x e = absurd (true≢false x)
  row_clashing m g (merge c a b) w x e = absurd (true≢false x)
  row_clashing m g unrated w x e = absurd (let z : ◌≡◌ {A = ℕ} 0 1 = cc in omega arith)
  row_clashing m g (view u a c v) w x e = absurd (true≢false x)

module _ (rows : List Row) (fit : AllFit (length rows) 0 rows) (free : AllFree 0 rows) (log : List ℕ) (all : Ticks) (ended : run rows log judging_ticks ≡ done all) where
  -- tick t of the run
  tick_at : (t : ℕ) → t ≤ 2 * max_derived → (q : Ticks) × Last rows log t q
  tick_at t l =
      let d : ℕ = 2 * max_derived - t in
      let e : judging_ticks ≡ d + suc t = omega arith in
      let x : (p : Ticks) × (run rows log (suc t) ≡ done p) = ended_before rows log d (suc t) all (subst (λ (i : ℕ). run rows log i ≡ done all) e ended) in
      (x.0, last rows log t x.0 x.1)

  -- no row of it was refused for its clocks
  no_bad_row : (ks : List Clock) (g : ℕ) (front : List Row) (r : Row) (back : List Row) → rows ≡ front ++ (r ∷ back) → Clocked (clock_at ks) 0 front
      → clock_of (clock_at ks) (length front) r ≡ refused ClocksDiffer g → ⊥
  unfolding flows_from
  no_bad_row ks g front r back e ck x =
      go (row_clashing rows log clk (length front) sane flat (length rows) g r
      (subst (λ (i : ℕ). Fits (length rows) i r) (omega arith) (each_at (Fits (length rows)) 0 front r back fits))
      (each_at (λ (i : ℕ). FreeRow) 0 front r back frees) x)
    where
      clk : ℕ → Clock
      clk = clock_at ks

      fits : AllFit (length rows) 0 (front ++ (r ∷ back))
      fits = subst (AllFit (length rows) 0) e fit

      frees : AllFree 0 (front ++ (r ∷ back))
      frees = subst (AllFree 0) e free

      fit_front : AllFit (length rows) 0 front
      fit_front = each_front (Fits (length rows)) 0 front (r ∷ back) fits

      sane : AllSane clk (length front)
      sane = all_sane clk (length rows) front fit_front ck

      flat : AllPlain clk (length front)
      flat = all_plain clk (length rows) front fit_front (each_front (λ (i : ℕ). FreeRow) 0 front (r ∷ back) frees) ck

      stops :
          (c : Clashing rows log clk (length front) r) (past : Ticks) (now : Tick) → length past ≡ c.tick → Kept clk (length front) past
          → tick_of rows log past ≡ filled now → ⊥
      stops c past now l k y =
          let z : cell_of rows log past (front_of rows log clk (length rows) front (r ∷ back) e fit_front ck sane past k).tick r ≡ clashes =
          c.clash past _ l (front_kept rows log clk (length rows) front (r ∷ back) e fit_front ck sane past k) in
          not_filled (rw (z, flows_from) at (front_filled rows log clk (length rows) front (r ∷ back) e fit_front ck sane past k now y))

      go : Clashing rows log clk (length front) r → ⊥
      go c =
          let y : (q : Ticks) × Last rows log c.tick q = tick_at c.tick c.soon in
          let k = run_kept rows log clk (length rows) front (r ∷ back) e fit_front ck sane c.tick y.1.past y.1.before in
          stops c y.1.past y.1.now k.0 k.1 y.1.fills

  -- no register of it has a source whose clock differs
  no_bad_source : (ks : List Clock) (front : List Row) (r : Row) (back : List Row) → Clocked (clock_at ks) 0 rows → rows ≡ front ++ (r ∷ back)
      → on_register (source_fits ks) r ≡ false → ⊥
  no_bad_source ks front r back ck e x = go r (register_or r) (each_at (Fits (length rows)) 0 front r back (subst (AllFit (length rows) 0) e fit)) x refl
    where
      clk : ℕ → Clock
      clk = clock_at ks

      sane : AllSane clk (length rows)
      sane = all_sane clk (length rows) rows fit ck

      flat : AllPlain clk (length rows)
      flat = all_plain clk (length rows) rows fit free ck

      meets : (now : Tick) → Registers (source_meets now) 0 rows none → on_register (source_meets now) r ≡ true
      meets now (all_pass h) = each_at (Passes (source_meets now)) 0 front r back (subst (Each (Passes (source_meets now)) 0) e h)

      differ : (v b a : ℕ) → b < length rows → a < length rows → same_clock (clk a) (clk b) ≡ false → r ≡ register v b a → ⊥
      differ v b a lb la d er =
          let p : Parted (clk a).period (clk a).phase (clk b).period (clk b).phase max_derived = parting rows log clk (length rows) sane flat a b la lb d in
          let y : (q : Ticks) × Last rows log p.tick q = tick_at p.tick p.soon in
          let nil : rows ≡ rows ++ [] = sym (append-nil rows) in
          let k = run_kept rows log clk (length rows) rows [] nil fit ck sane p.tick y.1.past y.1.before in
          let z : on_register (source_meets y.1.now) r ≡ true =
          meets y.1.now (subst (Registers (source_meets y.1.now) 0 rows) (tick_parts rows log y.1.past y.1.now y.1.fills).1
          (registers (source_meets y.1.now) 0 rows)) in
          marks_part rows log clk (length rows) sane flat a b la lb p y.1.past y.1.now k.0
          (tick_kept rows log clk (length rows) rows [] nil fit ck sane y.1.past k.1 y.1.now y.1.fills)
          (beq_true _ _ (subst (λ (q : Row). on_register (source_meets y.1.now) q ≡ true) er z))

      inside : length front < length rows
      inside = rw e (rw (length-append front (r ∷ back)) (omega arith))

      go : (q : Row) → RegisterOr q → Fits (length rows) (0 + length front) q → on_register (source_fits ks) q ≡ false → r ≡ q → ⊥
      go q (is_register_lem {v = v} {b = b} {a = a}) w x y = differ v b a (omega (arith, w.0, inside)) w.1 x y
      go q (is_other p) w x y = true≢false (sym (p (source_fits ks)) ∙ x)

  no_refusal : (c : Result (List Clock)) (g : ℕ) → c ≡ refused ClocksDiffer g → Checked rows c → ⊥
  no_refusal c g e (fine ks s k x) = good_refused e
  no_refusal c g e (bad_row ks why h front r back y k z) = let p : why ≡ ClocksDiffer = cc in no_bad_row ks h front r back y k (z ∙ ap (λ (q : Refusal). refused q h) p)
  no_refusal c g e (bad_source ks h front r back k y z) = no_bad_source ks front r back k y z

-- a plan refused with 21 does not run to the end of the judging ticks
pub refused_clashes : (rows : List Row) → AllFit (length rows) 0 rows → AllFree 0 rows → (g : ℕ) → clocks_of rows ≡ refused ClocksDiffer g
    → (log : List ℕ) (past : Ticks) → run rows log judging_ticks ≡ done past → ⊥
refused_clashes rows w x g e log past d = no_refusal rows w x log past d (clocks_of rows) g e (checked (length rows) rows w)

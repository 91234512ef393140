-- A run that ended without a clash filled every tick, and the flows whose clocks the rules give kept them. Assumes nothing.
use mathlib.Core.Path.{◌≡◌, refl, sym, ◌∙◌, ap, subst}
use Prim.Native.Nat.{ℕ, zero, suc, ◌+◌}
use native.Mathlib.Omega.{arith}
use mathlib.Core.List.{List, [], ◌∷◌, ◌++◌, append-nil, append_assoc}
use mathlib.Core.Option.{Option, none, some}
use lib.ListN.{length}
use Rattle.table.specs.Rows.{Row, bad_register}
use Rattle.table.proofs.Tables.{AllFit}
use Rattle.checker.specs.Clocks.{Clock}
use Rattle.checker.proofs.CheckLaws.{Clocked, AllSane}
use Rattle.semantics.specs.Cells.{Cell}
use Rattle.semantics.specs.Operators.{Step, is, clashes}
use Rattle.semantics.specs.Runs.{Tick, Ticks, cell_of, TickEnd, filled, stopped, on_step, flows_from, source_meets, sourced_tick, on_flows, tick_of}
use Rattle.semantics.specs.Runs.{Ran, done, clashed, on_tick, on_run, run}
use Rattle.calendar.proofs.Keeping.{Kept, Front, front_law, kept_append}

pub not_filled : {f : ℕ} {x now : Tick} {A : Type 0} → stopped f x ≡ filled now → A
not_filled e = absurd (let z : ◌≡◌ {A = ℕ} 0 1 = cc in omega arith)

not_done : {t f : ℕ} {now : Tick} {past q : Ticks} {A : Type 0} → clashed t f now past ≡ done q → A
not_done e = absurd (let z : ◌≡◌ {A = ℕ} 0 1 = cc in omega arith)

-- tick t of a run that ended
pub record Last (rows : List Row) (log : List ℕ) (t : ℕ) (all : Ticks) : Type 0 where
  pub past : Ticks
  pub now : Tick
  pub before : run rows log t ≡ done past
  pub fills : tick_of rows log past ≡ filled now
  pub split : all ≡ now ∷ past

pub last : (rows : List Row) (log : List ℕ) (t : ℕ) (q : Ticks) → run rows log (suc t) ≡ done q → Last rows log t q
unfolding run
last rows log t q e = go (run rows log t) refl e
  where
    tick : (past : Ticks) → run rows log t ≡ done past → (x : TickEnd) → tick_of rows log past ≡ x → on_tick t past x ≡ done q → Last rows log t q
    tick past r (filled now) y z = record { past = past; now = now; before = r; fills = y; split = cc }
    tick past r (stopped f now) y z = not_done z

    go : (x : Ran) → run rows log t ≡ x → (on_run x λ past. on_tick t past (tick_of rows log past)) ≡ done q → Last rows log t q
    go (done past) r z = tick past r (tick_of rows log past) refl z
    go (clashed u f now past) r z = not_done z

-- it had ended without a clash before each of its ticks too
pub ended_before : (rows : List Row) (log : List ℕ) (d t : ℕ) (q : Ticks) → run rows log (d + t) ≡ done q → (p : Ticks) × (run rows log t ≡ done p)
ended_before rows log zero t q e = (q, subst (λ (i : ℕ). run rows log i ≡ done q) (omega arith) e)
ended_before rows log (suc d) t q e =
    let x : Last rows log (d + t) q = last rows log (d + t) q (subst (λ (i : ℕ). run rows log i ≡ done q) (omega arith) e) in
    ended_before rows log d t x.past x.before

-- a tick that was filled: its flows, and its registers' sources
pub tick_parts : (rows : List Row) (log : List ℕ) (past : Ticks) (now : Tick) → tick_of rows log past ≡ filled now
    → (flows_from rows log past [] rows ≡ filled now) × (bad_register (source_meets now) 0 rows ≡ none)
unfolding tick_of
tick_parts rows log past now e = go (flows_from rows log past [] rows) refl e
  where
    sources : (y : Tick) (o : Option ℕ) → flows_from rows log past [] rows ≡ filled y → bad_register (source_meets y) 0 rows ≡ o → sourced_tick y o ≡ filled now
        → (flows_from rows log past [] rows ≡ filled now) × (bad_register (source_meets now) 0 rows ≡ none)
    sources y none r x z = let p : y ≡ now = cc in (r ∙ z, subst (λ (q : Tick). bad_register (source_meets q) 0 rows ≡ none) p x)
    sources y (some f) r x z = not_filled z

    go : (x : TickEnd) → flows_from rows log past [] rows ≡ x → on_flows rows x ≡ filled now
        → (flows_from rows log past [] rows ≡ filled now) × (bad_register (source_meets now) 0 rows ≡ none)
    go (filled y) r z = sources y (bad_register (source_meets y) 0 rows) r refl z
    go (stopped f y) r z = not_filled z

-- what was worked out stays in the tick
grown : (rows : List Row) (log : List ℕ) (past : Ticks) (rs : List Row) (tick now : Tick) → flows_from rows log past tick rs ≡ filled now → (more : Tick) × (now ≡ tick ++ more)
unfolding flows_from
grown rows log past [] tick now e = ([], let p : tick ≡ now = cc in sym p ∙ sym (append-nil tick))
grown rows log past (r ∷ rs) tick now e = go (cell_of rows log past tick r) e (λ c. grown rows log past rs (tick ++ (c ∷ [])) now)
  where
    go : (s : Step) → (on_step s tick λ c. flows_from rows log past (tick ++ (c ∷ [])) rs) ≡ filled now
        → ((c : Cell) → flows_from rows log past (tick ++ (c ∷ [])) rs ≡ filled now → (more : Tick) × (now ≡ (tick ++ (c ∷ [])) ++ more)) → (more : Tick) × (now ≡ tick ++ more)
    go (is c) x h = let y : (more : Tick) × (now ≡ (tick ++ (c ∷ [])) ++ more) = h c x in (c ∷ y.0, y.1 ∙ append_assoc tick (c ∷ []) y.0)
    go clashes x h = not_filled x

-- Over any run without a clash, the flows of a front that has clocks keep them.
module _ (rows : List Row) (log : List ℕ) (clk : ℕ → Clock) (w : ℕ) (front rest : List Row) (whole : rows ≡ front ++ rest)
    (fit : AllFit w 0 front) (ck : Clocked clk 0 front) (sane : AllSane clk (length front)) where
  pub front_of : (past : Ticks) → Kept clk (length front) past → Front rows log clk past [] front
  front_of past k = front_law rows log clk past (length front) sane k w front [] (omega arith) fit ck (λ f x. absurd (omega arith))

  pub front_size : (past : Ticks) (k : Kept clk (length front) past) → length (front_of past k).tick ≡ length front
  front_size past k = (front_of past k).size ∙ omega arith

  pub front_kept : (past : Ticks) (k : Kept clk (length front) past) → Kept clk (length front) ((front_of past k).tick ∷ past)
  front_kept past k = subst (λ (i : ℕ). Kept clk i ((front_of past k).tick ∷ past)) (front_size past k) (front_of past k).keeps

  pub front_filled :
      (past : Ticks) (k : Kept clk (length front) past) (now : Tick) → tick_of rows log past ≡ filled now
      → flows_from rows log past (front_of past k).tick rest ≡ filled now
  front_filled past k now e =
      sym ((front_of past k).same rest) ∙ subst (λ (l : List Row). flows_from rows log past [] l ≡ filled now) whole (tick_parts rows log past now e).0

  pub tick_kept : (past : Ticks) (k : Kept clk (length front) past) (now : Tick) → tick_of rows log past ≡ filled now → Kept clk (length front) (now ∷ past)
  tick_kept past k now e =
      let fr : Front rows log clk past [] front = front_of past k in
      let x : (more : Tick) × (now ≡ fr.tick ++ more) = grown rows log past rest fr.tick now (front_filled past k now e) in
      subst (λ (q : Tick). Kept clk (length front) (q ∷ past)) (sym x.1)
      (subst (λ (i : ℕ). Kept clk i ((fr.tick ++ x.0) ∷ past)) (front_size past k)
      (kept_append rows log clk past (length front) sane k fr.tick x.0 (omega (arith, front_size past k)) fr.keeps))

  pub run_kept : (t : ℕ) (past : Ticks) → run rows log t ≡ done past → (length past ≡ t) × Kept clk (length front) past
  unfolding run
  run_kept zero past e = let p : [] ≡ past = cc in subst (λ (q : Ticks). (length q ≡ 0) × Kept clk (length front) q) p (refl, λ f l. tt)
  run_kept (suc t) past e = go (last rows log t past e) (run_kept t)
    where
      go : Last rows log t past → ((q : Ticks) → run rows log t ≡ done q → (length q ≡ t) × Kept clk (length front) q) → (length past ≡ suc t) × Kept clk (length front) past
      go x h =
          let y : (length x.past ≡ t) × Kept clk (length front) x.past = h x.past x.before in
          subst (λ (q : Ticks). (length q ≡ suc t) × Kept clk (length front) q) (sym x.split) (ap suc y.0, tick_kept x.past y.1 x.now x.fills)

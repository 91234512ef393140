-- How many cells the ticks so far have, and where a flow's stand. Assumes nothing.
use mathlib.Core.Path.{◌≡◌, refl, sym, ◌∙◌, ap}
use Prim.Native.Nat.{ℕ, zero, suc, ◌+◌, ◌*◌, ◌≤◌, ◌<◌}
use native.Mathlib.Nat.{zero-add, suc-mul, zero-mul, mul-le-mul_right}
use native.Mathlib.Omega.{arith}
use mathlib.Core.List.{List, [], ◌∷◌, ◌++◌}
use lib.ListN.{length, get_or, drop, length-append, length-map, get_or-append}
use lib.Seq.{get_or-append-add}
use borrow.Author.Tests.{eq-eqb, ne_eqb}
use Rattle.semantics.specs.Cells.{Cell, absent, History, back, cell_on}
use Rattle.table.specs.Rows.{Row}
use Rattle.semantics.specs.Runs.{Tick, Ticks, cell_in, history, TickEnd, filled, stopped, tick_of, Ran, done, clashed, on_tick, on_run, run, cells, Regular}

pub history_length : (past : Ticks) (a : ℕ) → length (history past a) ≡ length past
unfolding history
history_length past a = length-map past (λ (now : Tick). cell_in now a)

-- the trace has n cells a tick
pub cells_length : (n : ℕ) (past : Ticks) → Regular n past → length (cells past) ≡ length past * n
unfolding cells
cells_length n [] r = sym (zero-mul n)
cells_length n (now ∷ past) r = length-append (cells past) now ∙ omega (arith, cells_length n past r.1, r.0, suc-mul (length past) n)

-- a cell of the trace is the cell of its flow's history
pub cells_at : (n a : ℕ) → a < n → (past : Ticks) → Regular n past → (i k : ℕ) → i + suc k ≡ length past
    → get_or (cells past) (i * n + a) absent ≡ back (history past a) k
unfolding cells history
cells_at n a l [] r i k e = absurd (omega arith)
cells_at n a l (now ∷ past) r i zero e =
    let z : i ≡ length past = omega arith in
    ap (λ (m : ℕ). get_or (cells past ++ now) (m + a) absent) (ap (λ (m : ℕ). m * n) z ∙ sym (cells_length n past r.1))
    ∙ get_or-append-add (cells past) now a absent
cells_at n a l (now ∷ past) r i (suc k) e =
    let m : suc i * n ≤ length past * n = mul-le-mul_right n (omega arith) in
    get_or-append (cells past) now absent (i * n + a) (omega (arith, suc-mul i n, cells_length n past r.1))
    ∙ cells_at n a l past r.1 i k (omega arith)

-- the cell of a tick, counted from the latest
pub tick_back : (h : History) (u i : ℕ) → u + suc i ≡ length h → cell_on h u ≡ back h i
unfolding cell_on
tick_back [] u i e = absurd (omega arith)
tick_back (c ∷ h) u zero e = rw (eq-eqb u (length h) (omega arith))
tick_back (c ∷ h) u (suc i) e = rw (ne_eqb u (length h) (λ (q : u ≡ length h). omega arith)) (tick_back h u i (omega arith))

-- of the latest, and of one before it
pub tick_now : (c : Cell) (h : History) (u : ℕ) → u ≡ length h → cell_on (c ∷ h) u ≡ c
tick_now c h u e = tick_back (c ∷ h) u 0 (omega arith)

pub tick_before : (c : Cell) (h : History) (u : ℕ) → u < length h → cell_on (c ∷ h) u ≡ cell_on h u
unfolding cell_on
tick_before c h u l = rw (ne_eqb u (length h) (λ (e : u ≡ length h). omega arith))

-- a run to its end has its ticks
pub run_length : (rows : List Row) (log : List ℕ) (t : ℕ) (past : Ticks) → run rows log t ≡ done past → length past ≡ t
unfolding run
run_length rows log zero past e = let z : [] ≡ past = cc in ap length (sym z)
run_length rows log (suc t) past e = go (run rows log t) refl e (run_length rows log t)
  where
    ended : (x : TickEnd) (front : Ticks) → on_tick t front x ≡ done past → length front ≡ t → length past ≡ suc t
    ended (filled now) front e l = let z : now ∷ front ≡ past = cc in ap length (sym z) ∙ ap suc l
    ended (stopped f now) front e l = absurd (let z : ◌≡◌ {A = ℕ} 0 1 = cc in omega arith)

    go : (x : Ran) → run rows log t ≡ x → on_run x (λ old. on_tick t old (tick_of rows log old)) ≡ done past → ((q : Ticks) → run rows log t ≡ done q → length q ≡ t)
        → length past ≡ suc t
    go (done front) q e next = ended (tick_of rows log front) front e (next front q)
    go (clashed s f now front) q e next = absurd (let z : ◌≡◌ {A = ℕ} 0 1 = cc in omega arith)

-- the ticks of a shorter run are those of a longer one without its last
pub run_earlier : (rows : List Row) (log : List ℕ) (t i : ℕ) (past late : Ticks) → run rows log t ≡ done past → run rows log (i + t) ≡ done late → drop i late ≡ past
unfolding run
run_earlier rows log t zero past late e d =
    let z : done late ≡ done past = sym d ∙ ap (run rows log) (zero-add t) ∙ e in
    let q : late ≡ past = cc in
    q
run_earlier rows log t (suc i) past late e d = go (run rows log (i + t)) refl (ap (run rows log) n ∙ d) (λ q f. run_earlier rows log t i past q e f)
  where
    n : suc (i + t) ≡ suc i + t
    n = omega arith

    ended : (x : TickEnd) (front : Ticks) → on_tick (i + t) front x ≡ done late → drop i front ≡ past → drop (suc i) late ≡ past
    ended (filled now) front e h = let z : now ∷ front ≡ late = cc in ap (drop (suc i)) (sym z) ∙ h
    ended (stopped f now) front e h = absurd (let z : ◌≡◌ {A = ℕ} 0 1 = cc in omega arith)

    go : (x : Ran) → run rows log (i + t) ≡ x → on_run x (λ old. on_tick (i + t) old (tick_of rows log old)) ≡ done late
        → ((q : Ticks) → run rows log (i + t) ≡ done q → drop i q ≡ past) → drop (suc i) late ≡ past
    go (done front) q e next = ended (tick_of rows log front) front e (next front q)
    go (clashed s f now front) q e next = absurd (let z : ◌≡◌ {A = ℕ} 0 1 = cc in omega arith)

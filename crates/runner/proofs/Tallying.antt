-- The tallies after a tick, and after a loop over ticks. Assumes nothing.
use Rattle.std.proofs.Common.{◌≡◌, ℕ, suc, ◌+◌, ◌-◌, ◌*◌, ◌<◌, ◌≤◌, cond, eqb, List, [], ◌∷◌, ◌++◌, length, get_or, drop, replicate, sym, ap, ◌∙◌, subst}
use Rattle.std.proofs.Common.{arith, length-append, length-drop, drop-cons}
use Rattle.std.proofs.Math.ListN.{get_or-append}
use Rattle.std.proofs.lemmas.List.{get_or-append_right, get_or-drop, get_or-replicate, length-replicate}
use lib.ListN.{get_or-map}
use Rattle.table.proofs.Tests.{Tried, passed, failed, try}
use Rattle.semantics.specs.Cells.{Cell, mark, value, back}
use Rattle.semantics.specs.Runs.{Tick, Ticks, cell_in, history}
use Rattle.semantics.specs.Windows.{tally_size, Tallied}
use Rattle.semantics.proofs.Tallies.{tallied_more, tallied_none, tally_few}
use Rattle.runner.specs.Private.Carried.{cell_at}
use Rattle.runner.specs.Private.Placed.{first_cell, Recalls, Low, Counted}

-- what a cell's mark and value in the buffers tell
module _ (m v : ℕ) (c : Cell) (e : cell_at m v ≡ c) (a : ℕ) where
  by_mark : (b : ℕ) → cond (eqb m 0) a b ≡ cond (mark c) b a
  by_mark b = go (try (eqb m 0)) ∙ ap (λ (d : Cell). cond (mark d) b a) e
    where
      go : Tried (eqb m 0) → cond (eqb m 0) a b ≡ cond (mark (cell_at m v)) b a
      go (passed t) = rw t
      go (failed t) = rw t

  by_value : cond (eqb m 0) a v ≡ cond (mark c) (value c) a
  by_value = go (try (eqb m 0)) ∙ ap (λ (d : Cell). cond (mark d) (value d) a) e
    where
      go : Tried (eqb m 0) → cond (eqb m 0) a v ≡ cond (mark (cell_at m v)) (value (cell_at m v)) a
      go (passed t) = rw t
      go (failed t) = rw t

-- the ticks up to the next one are those before it, and this one
split_at : (t to : ℕ) (past : Ticks) → length past ≡ to → t < to → drop (to - (t + 1)) past ≡ get_or past (to - (t + 1)) [] ∷ drop (to - t) past
split_at t to past z h =
    let e : suc (to - (t + 1)) ≡ to - t = omega arith in
    drop-cons past (to - (t + 1)) [] (omega arith) ∙ ap (λ (k : ℕ). get_or past (to - (t + 1)) [] ∷ drop k past) e

-- its cells stand at their places
cell_of_lem : (room n t to f : ℕ) (past : Ticks) (ms vs : List ℕ) → t < to → to ≤ t + room → f < n → Recalls room n to past ms vs
    → cell_at (get_or ms (first_cell room n t + f) 0) (get_or vs (first_cell room n t + f) 0) ≡ cell_in (get_or past (to - (t + 1)) []) f
unfolding history
cell_of_lem room n t to f past ms vs h w l W =
    let e : to - (to - t) ≡ t = omega arith in
    let k : to - t - 1 ≡ to - (t + 1) = omega arith in
    ap (λ (j : ℕ). cell_at (get_or ms (first_cell room n j + f) 0) (get_or vs (first_cell room n j + f) 0)) (sym e)
    ∙ W.cell f (to - t) l (omega arith) (omega arith) (omega arith)
    ∙ ap (back (history past f)) k
    ∙ get_or-map (λ (y : Tick). cell_in y f) past (to - (t + 1)) []

-- one tick more is tallied, of those that the window has
pub tallied_on : (room n t to : ℕ) (past : Ticks) (ms vs ts₀ ts ts' : List ℕ) → length past ≡ to → t < to → to ≤ t + room → Recalls room n to past ms vs
    → Counted (first_cell room n t) n ms vs ts ts' → length ts' ≡ length ts → Tallied n (drop (to - t) past) ts₀ ts → Tallied n (drop (to - (t + 1)) past) ts₀ ts'
tallied_on room n t to past ms vs ts₀ ts ts' z h w W C q T =
    subst (λ (y : Ticks). Tallied n y ts₀ ts') (sym (split_at t to past z h))
    (tallied_more n (drop (to - t) past) now ts₀ ts ts' T q
    (λ f l. C.counts f l ∙ by_mark (m f) (v f) (cell_in now f) (cell_of_lem room n t to f past ms vs h w l W) (get_or ts (tally_size * f) 0) (get_or ts (tally_size * f) 0 + 1))
    (λ f l. C.lasts f l ∙ by_value (m f) (v f) (cell_in now f) (cell_of_lem room n t to f past ms vs h w l W) (get_or ts (tally_size * f + 1) 0))
    C.rest)
  where
    now : Tick
    now = get_or past (to - (t + 1)) []

    m : ℕ → ℕ
    m f = get_or ms (first_cell room n t + f) 0

    v : ℕ → ℕ
    v f = get_or vs (first_cell room n t + f) 0

-- a count grows by at most 1
pub low_on : (first n limit : ℕ) (ms vs ts ts' : List ℕ) → Counted first n ms vs ts ts' → Low n limit ts → Low n (limit + 1) ts'
low_on first n limit ms vs ts ts' C L = record { count = λ f l. go f l (try (eqb (get_or ms (first + f) 0) 0)) }
  where
    go : (f : ℕ) → f < n → Tried (eqb (get_or ms (first + f) 0) 0) → get_or ts' (tally_size * f) 0 < limit + 1
    go f l (passed e) = let c : get_or ts' (tally_size * f) 0 ≡ get_or ts (tally_size * f) 0 = rw e at (C.counts f l) in omega (arith, L.count f l)
    go f l (failed e) = let c : get_or ts' (tally_size * f) 0 ≡ get_or ts (tally_size * f) 0 + 1 = rw e at (C.counts f l) in omega (arith, L.count f l)

pub low_within : (n limit limit' : ℕ) (ts : List ℕ) → limit ≤ limit' → Low n limit ts → Low n limit' ts
low_within n limit limit' ts l L = record { count = λ f h. omega (arith, L.count f h) }

-- a count is at most the tick
pub tallied_low : (n t : ℕ) (past : Ticks) (ts₀ ts : List ℕ) → length past ≡ t → Tallied n past ts₀ ts → Low n (t + 1) ts
tallied_low n t past ts₀ ts z T = record { count = λ f h. omega (arith, tally_few n past ts₀ ts T f h) }

-- the first words were set to 0
pub tallied_cleared : (n : ℕ) (ts zs : List ℕ) → zs ≡ replicate (tally_size * n) 0 → tally_size * n ≤ length ts → Tallied n [] ts (zs ++ drop (tally_size * n) ts)
tallied_cleared n ts zs e l =
    tallied_none n ts (zs ++ drop (tally_size * n) ts) (simp (length-append, length-drop) (omega (arith, size))) zeros rest
  where
    size : length zs ≡ tally_size * n
    size = ap length e ∙ length-replicate (tally_size * n) 0

    zeros : (i : ℕ) → i < tally_size * n → get_or (zs ++ drop (tally_size * n) ts) i 0 ≡ 0
    zeros i k = get_or-append zs (drop (tally_size * n) ts) 0 i (omega (arith, size)) ∙ ap (λ (l : List ℕ). get_or l i 0) e ∙ get_or-replicate (tally_size * n) i 0 0 k

    rest : (i : ℕ) → tally_size * n ≤ i → get_or (zs ++ drop (tally_size * n) ts) i 0 ≡ get_or ts i 0
    rest i k =
        get_or-append_right zs (drop (tally_size * n) ts) (tally_size * n) i 0 size k
        ∙ get_or-drop (tally_size * n) ts (i - tally_size * n) 0
        ∙ ap (λ (j : ℕ). get_or ts j 0) (omega arith)

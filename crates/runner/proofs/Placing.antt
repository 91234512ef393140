-- Marks and values that take each tick's cells at its own place: what each place then holds. Assumes nothing.
use Rattle.std.proofs.Common.{◌≡◌, ℕ, zero, suc, ◌+◌, ◌-◌, ◌*◌, ◌%◌, ◌^◌, ◌<◌, ◌≤◌, ltb, ◌⊎◌, List, [], ◌∷◌, ◌++◌, map, length, get_or, take, drop}
use Rattle.std.proofs.Common.{sym, refl, ap, ◌∙◌, subst, inl, inr, append_assoc, mul-le-mul, mul-le-mul_right, mod-lt, mod-eq_of_lt, suc-mul, arith}
use Rattle.std.proofs.Common.{length-append, length-drop, length-take-le, get_or-drop, get_or-take, drop-drop, get_or-append-add, ltb-false, ltb-true}
use native.Mathlib.Nat.{mod-le, mod-eq-sub-mod, mod-add-mod}
use mathlib.Core.List.{map-append}
use lib.ListN.{length-map, get_or-append, get_or-map}
use lib.Seq.{take-append_seam, drop-append_seam}
use lib.Bits.{bit_and, and_mask}
use Rattle.table.specs.Answers.{over}
use Rattle.table.specs.Rows.{max_flows}
use Rattle.table.proofs.Tests.{Tried, passed, failed, try}
use Rattle.semantics.specs.Cells.{Cell, absent, back}
use Rattle.semantics.specs.Runs.{Tick, Ticks, cell_in, history, cells, Regular}
use Rattle.semantics.specs.Windows.{Windowed}
use Rattle.semantics.proofs.Traces.{cells_length, history_length, tick_back}
use Rattle.runner.specs.Private.Placed.{Mask, first_cell, Fitting, splice, placed}

-- a product with a count of flows is low
pub place_small : (t n w : ℕ) → t ≤ w → n ≤ max_flows → t * n ≤ w * max_flows
place_small t n w l k = mul-le-mul {n₁ = t} {m₁ = n} {n₂ = w} {m₂ = max_flows} l k

-- a mask leaves the remainder
pub masked : (t mask : ℕ) → Mask mask → bit_and t mask ≡ t % (mask + 1)
masked t mask M =
    let e : mask ≡ 2 ^ M.width - 1 = omega (arith, M.is) in
    ap (bit_and t) e ∙ and_mask t M.width ∙ ap (λ (m : ℕ). t % m) (sym M.is)

-- a tick's first cell has a low place
pub first_low : (t mask n : ℕ) → Mask mask → t < 2 ^ 32 → n ≤ max_flows → bit_and t mask * n ≤ 2 ^ 32 * max_flows
first_low t mask n M l k = place_small (bit_and t mask) n (2 ^ 32) (omega (arith, masked t mask M, mod-le t (mask + 1))) k

module _ (i : ℕ) (xs l : List ℕ) (h : i + length xs ≤ length l) where
  front : length (take i l) ≡ i
  front = length-take-le i l (omega arith)

  splice_length : length (splice i xs l) ≡ length l
  splice_length =
      length-append (take i l) (over xs (drop i l))
      ∙ omega (arith, front, length-append xs (drop (length xs) (drop i l)), length-drop (length xs) (drop i l), length-drop i l)

  from : (j : ℕ) → get_or (splice i xs l) (i + j) 0 ≡ get_or (over xs (drop i l)) j 0
  from j = ap (λ (k : ℕ). get_or (splice i xs l) (k + j) 0) (sym front) ∙ get_or-append-add (take i l) (over xs (drop i l)) j 0

  splice_in : (j : ℕ) → j < length xs → get_or (splice i xs l) (i + j) 0 ≡ get_or xs j 0
  splice_in j k = from j ∙ get_or-append xs (drop (length xs) (drop i l)) 0 j k

  after : (j : ℕ) → get_or (splice i xs l) (i + (length xs + j)) 0 ≡ get_or l (i + (length xs + j)) 0
  after j =
      from (length xs + j)
      ∙ get_or-append-add xs (drop (length xs) (drop i l)) j 0
      ∙ get_or-drop (length xs) (drop i l) j 0
      ∙ get_or-drop i l (length xs + j) 0

  splice_off : (j : ℕ) → (j < i) ⊎ (i + length xs ≤ j) → get_or (splice i xs l) j 0 ≡ get_or l j 0
  splice_off j (inl k) = get_or-append (take i l) (over xs (drop i l)) 0 j (omega (arith, front)) ∙ get_or-take i l j 0 k
  splice_off j (inr k) =
      let e : i + (length xs + (j - (i + length xs))) ≡ j = omega arith in
      subst (λ (m : ℕ). get_or (splice i xs l) m 0 ≡ get_or l m 0) e (after (j - (i + length xs)))

-- a cell of a tick, where it was written
pub cell_at_lem : (g : Cell → ℕ) → g absent ≡ 0 → (first f : ℕ) (now : Tick) (l : List ℕ) → first + length now ≤ length l → f < length now
    → get_or (splice first (map g now) l) (first + f) 0 ≡ g (cell_in now f)
cell_at_lem g z first f now l h k =
    splice_in first (map g now) l (omega (arith, length-map now g)) f (omega (arith, length-map now g))
    ∙ ap (λ (d : ℕ). get_or (map g now) f d) (sym z)
    ∙ get_or-map g now f absent

-- what follows on what stands in front
splice_over : (i : ℕ) (xs zs l : List ℕ) → length xs ≡ i → splice i zs (over xs l) ≡ over (xs ++ zs) l
splice_over i xs zs l e =
    ap (λ (k : ℕ). splice k zs (over xs l)) (sym e)
    ∙ ap (λ (y : List ℕ). y ++ over zs (drop (length xs) (over xs l))) (take-append_seam xs (drop (length xs) l))
    ∙ ap (λ (y : List ℕ). xs ++ over zs y) (drop-append_seam xs (drop (length xs) l))
    ∙ ap (λ (y : List ℕ). xs ++ (zs ++ y)) (drop-drop (length zs) (length xs) l)
    ∙ sym (append_assoc xs zs (drop (length xs + length zs) l))
    ∙ ap (λ (k : ℕ). (xs ++ zs) ++ drop k l) (sym (length-append xs zs))

-- cells of one place, and of another
apart : (n p q f : ℕ) → (p ≡ q → ⊥) → f < n → (p * n + f < q * n) ⊎ (q * n + n ≤ p * n + f)
apart n p q f ne l = go (try (ltb p q))
  where
    go : Tried (ltb p q) → (p * n + f < q * n) ⊎ (q * n + n ≤ p * n + f)
    go (passed t) = let m : suc p * n ≤ q * n = mul-le-mul_right n (ltb-true p q t) in inl (omega (arith, suc-mul p n))
    go (failed t) =
        let z : q ≤ p = ltb-false p q t in
        let m : suc q * n ≤ p * n = mul-le-mul_right n (omega arith) in
        inr (omega (arith, suc-mul q n))

-- ticks that are fewer than room apart have different places
differ : (room s j : ℕ) → suc j < room → (s + suc j) % room ≡ s % room → ⊥
differ room s j l e = go (try (ltb (s % room + suc j) room))
  where
    b : s % room < room
    b = mod-lt s {m = room} (omega arith)

    go : Tried (ltb (s % room + suc j) room) → ⊥
    go (passed t) =
        let x : (s % room + suc j) % room ≡ s % room + suc j = mod-eq_of_lt (ltb-true (s % room + suc j) room t) in
        omega (arith, mod-add-mod s room (suc j))
    go (failed t) =
        let u : room ≤ s % room + suc j = ltb-false (s % room + suc j) room t in
        let x : (s % room + suc j) % room ≡ (s % room + suc j - room) % room = mod-eq-sub-mod u in
        let y : (s % room + suc j - room) % room ≡ s % room + suc j - room = mod-eq_of_lt (omega (arith, b)) in
        omega (arith, mod-add-mod s room (suc j))

-- fewer ticks have their places in a list too
pub fewer : {room n ticks size : ℕ} (k : ℕ) → k ≤ ticks → Fitting room n ticks size → Fitting room n k size
fewer k l F = record { place = λ t h. F.place t (omega arith) }

module _ (room n : ℕ) (g : Cell → ℕ) (old : List ℕ) where
  -- the window after these ticks, the latest of which goes to its place
  module _ (now : Tick) (past : Ticks) (size : length now ≡ n) (F : Fitting room n (suc (length past)) (length old)) (e : length (placed room n g old past) ≡ length old) where
    room_left : first_cell room n (length past) + length (map g now) ≤ length (placed room n g old past)
    room_left = omega (arith, length-map now g, F.place (length past) (omega arith), e)

    -- what a tick leaves as it was
    kept : (j : ℕ) → (j < first_cell room n (length past)) ⊎ (first_cell room n (length past) + n ≤ j)
        → get_or (splice (first_cell room n (length past)) (map g now) (placed room n g old past)) j 0 ≡ get_or (placed room n g old past) j 0
    kept j o =
        splice_off (first_cell room n (length past)) (map g now) (placed room n g old past) room_left j
        (subst (λ (k : ℕ). (j < first_cell room n (length past)) ⊎ (first_cell room n (length past) + k ≤ j)) (sym (length-map now g ∙ size)) o)

  placed_length : (ts : Ticks) → Regular n ts → Fitting room n (length ts) (length old) → length (placed room n g old ts) ≡ length old
  unfolding placed
  placed_length [] r F = refl
  placed_length (now ∷ past) r F =
      let e : length (placed room n g old past) ≡ length old = placed_length past r.1 (fewer (length past) (omega arith) F) in
      splice_length (first_cell room n (length past)) (map g now) (placed room n g old past) (room_left now past r.0 F e) ∙ e

  -- a flow's cells stand at their places as far back as there is room
  pub placed_last : g absent ≡ 0 → (past : Ticks) → Regular n past → Fitting room n (length past) (length old) → (a t k : ℕ) → a < n → t + suc k ≡ length past → k < room
      → get_or (placed room n g old past) (first_cell room n t + a) 0 ≡ g (back (history past a) k)
  unfolding placed history
  placed_last z [] r F a t k l e b = absurd (omega arith)
  placed_last z (now ∷ past) r F a t zero l e b =
      let q : t ≡ length past = omega arith in
      let G : Fitting room n (length past) (length old) = fewer (length past) (omega arith) F in
      ap (λ (i : ℕ). get_or (splice (first_cell room n (length past)) (map g now) (placed room n g old past)) (first_cell room n i + a) 0) q
      ∙ cell_at_lem g z (first_cell room n (length past)) a now (placed room n g old past)
      (omega (arith, length-map now g, room_left now past r.0 F (placed_length past r.1 G))) (omega (arith, r.0))
  placed_last z (now ∷ past) r F a t (suc k) l e b =
      let q : t + suc k ≡ length past = omega arith in
      let G : Fitting room n (length past) (length old) = fewer (length past) (omega arith) F in
      kept now past r.0 F (placed_length past r.1 G) (first_cell room n t + a)
      (apart n (t % room) (length past % room) a (λ i. differ room t k b (ap (λ (j : ℕ). j % room) q ∙ sym i)) l)
      ∙ placed_last z past r.1 G a t k l q (omega arith)

  -- what lies behind every tick's cells is as it was
  placed_off : (past : Ticks) → Regular n past → Fitting room n (length past) (length old) → (i : ℕ) → ((t : ℕ) → t < length past → first_cell room n t + n ≤ i)
      → get_or (placed room n g old past) i 0 ≡ get_or old i 0
  unfolding placed
  placed_off [] r F i h = refl
  placed_off (now ∷ past) r F i h =
      let G : Fitting room n (length past) (length old) = fewer (length past) (omega arith) F in
      kept now past r.0 F (placed_length past r.1 G) i (inr (h (length past) (omega arith))) ∙ placed_off past r.1 G i (λ t l. h t (omega arith))

  pub windowed : g absent ≡ 0 → 0 < room → (past : Ticks) → Regular n past → Fitting room n (length past) (length old)
      → Windowed room n g past old (placed room n g old past)
  windowed z pos past r F =
      record {
        size = placed_length past r F;
        last =
            λ t f lo hi l.
            let k : ℕ = length past - suc t in
            let e : t + suc k ≡ length past = omega arith in
            placed_last z past r F f t k l e (omega arith) ∙ ap g (sym (tick_back (history past f) t k (omega (arith, history_length past f))));
        unreached =
            λ i l.
            placed_off past r F i
            (λ t h.
            let a : t % room * n ≤ t * n = mul-le-mul_right n (mod-le t room) in
            let b : suc t * n ≤ length past * n = mul-le-mul_right n h in
            omega (arith, suc-mul t n));
        rest =
            λ i l.
            placed_off past r F i
            (λ t h. let a : suc (t % room) * n ≤ room * n = mul-le-mul_right n (mod-lt t {m = room} pos) in omega (arith, suc-mul (t % room) n));
      }

  -- where no tick falls on the place of another, each stands behind those before it
  one_more : (now : Tick) (past : Ticks) → Regular n past → length past < room → placed room n g old past ≡ over (map g (cells past)) old
      → placed room n g old (now ∷ past) ≡ over (map g (cells past ++ now)) old
  unfolding placed
  one_more now past r l e =
      let q : length past % room ≡ length past = mod-eq_of_lt l in
      ap (λ (y : List ℕ). splice (first_cell room n (length past)) (map g now) y) e
      ∙ splice_over (first_cell room n (length past)) (map g (cells past)) (map g now) old
      (length-map (cells past) g ∙ cells_length n past r ∙ ap (λ (k : ℕ). k * n) (sym q))
      ∙ ap (λ (y : List ℕ). over y old) (sym (map-append g (cells past) now))

  -- so they are the trace, and the cells of a tick that clashed come last
  pub placed_trace : (past : Ticks) → Regular n past → length past ≤ room → placed room n g old past ≡ over (map g (cells past)) old
  unfolding placed cells
  placed_trace [] r l = refl
  placed_trace (now ∷ past) r l = one_more now past r.1 (omega arith) (placed_trace past r.1 (omega arith))

  pub placed_clash : (now : Tick) (past : Ticks) → Regular n past → length past < room → placed room n g old (now ∷ past) ≡ over (map g (cells past ++ now)) old
  placed_clash now past r l = one_more now past r l (placed_trace past r (omega arith))

-- every tick has its place where there is room for all, and where there is room for a window
pub whole_fits : (room n ticks size : ℕ) → ticks ≤ room → ticks * n ≤ size → Fitting room n ticks size
whole_fits room n ticks size w l =
    record {
      place =
          λ t k.
          let e : t % room ≡ t = mod-eq_of_lt (omega arith) in
          let m : suc t * n ≤ ticks * n = mul-le-mul_right n k in
          omega (arith, ap (λ (j : ℕ). j * n) e, suc-mul t n);
    }

pub window_fits : (room n ticks size : ℕ) → 0 < room → room * n ≤ size → Fitting room n ticks size
window_fits room n ticks size pos l =
    record {
      place =
          λ t k.
          let m : suc (t % room) * n ≤ room * n = mul-le-mul_right n (mod-lt t {m = room} pos) in
          omega (arith, suc-mul (t % room) n);
    }

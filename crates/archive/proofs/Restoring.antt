-- Words given back at their due cells, block by block, over cells that are all 0. Assumes nothing.
use mathlib.Core.Path.{◌≡◌, sym, ◌∙◌, ap, subst}
use Prim.Native.Nat.{ℕ, suc, ◌+◌, ◌*◌, ◌-◌, ◌≤◌, ◌<◌}
use native.Mathlib.Nat.{mul-le-mul_right, suc-mul}
use native.Mathlib.Decide.{dec_lt}
use native.Mathlib.Omega.{arith}
use mathlib.Core.Bool.{Bool, true, false, cond}
use mathlib.Core.List.{List}
use lib.ListN.{length, get_or, take, drop, set, replicate, length-set, length-replicate}
use lib.Seq.{get_or-set_same, get_or-set_other, get_or-drop}
use borrow.Rule.Slice.PartMut.{mid_of, put_mid, same_len_mid}
use Rattle.std.proofs.lemmas.List.{length-take-le, length-drop, get_or-take, get_or-append_right, get_or_append_left, get_or-replicate}
use Rattle.table.specs.Bits.{bit}
use Rattle.table.proofs.Tests.{Tried, passed, failed, try}
use Rattle.checker.specs.Clocks.{Clock}
use Rattle.semantics.specs.Cells.{on_grid}
use Rattle.calendar.specs.Calendar.{cell_at}
use Rattle.calendar.proofs.Grid.{off_grid}
use Rattle.archive.specs.Columns.{points, spread}
use Rattle.archive.specs.Traces.{words_before, restored_mark, restored_value, cells_of}
use Rattle.archive.specs.declared.plan.Next.{Next}
use Rattle.archive.specs.Private.Steps.{period_in, phase_in, clocks_in, point, next_in, place_in, next_at, Put, FilledTo, Filled}
use Rattle.archive.proofs.Grids.{more_points, before_last, tick_is}
use Rattle.archive.proofs.Traces.{cells_are}
use Rattle.archive.proofs.Held.{clock_at_lem, points_from, from_begin}

-- PLACES OF CELLS
pub same_place : (m t g s f : ℕ) → g < m → f < m → t * m + g ≡ s * m + f → (t ≡ s) × (g ≡ f)
same_place m t g s f k l e = go (dec_lt t s) (dec_lt s t)
  where
    go : Dec (t < s) → Dec (s < t) → (t ≡ s) × (g ≡ f)
    go (yes x) y = absurd (omega (arith, mul-le-mul_right m x, suc-mul t m))
    go (no x) (yes y) = absurd (omega (arith, mul-le-mul_right m y, suc-mul s m))
    go (no x) (no y) = let q : t ≡ s = omega arith in (q, omega (arith, ap (λ (i : ℕ). i * m) q))

-- THE DUE CELLS OF A COLUMN
-- places of different ones differ
before : (m n p f c : ℕ) → 0 < n → f < m → (j : ℕ) → j < c → point n p j * m + f < point n p c * m + f
before m n p f c pos in_row j l =
    let a : suc j * n ≤ c * n = mul-le-mul_right n l in
    let b : suc (point n p j) * m ≤ point n p c * m = mul-le-mul_right m (omega (arith, suc-mul j n)) in
    omega (arith, suc-mul (point n p j) m)

module _ {m n p f c t v : ℕ} {given : ℕ → ℕ} {old new : List ℕ} (pos : 0 < n) (in_row : f < m) where
  pub put_next : t ≡ point n p c → t * m + f < length old → v ≡ given c → Put m n p f c given old new
      → Put m n p f (suc c) given old (set new (t * m + f) v)
  put_next tick l e h =
      let x : ℕ = t * m + f in
      let q : x ≡ point n p c * m + f = ap (λ (i : ℕ). i * m + f) tick in
      record {
        size = length-set new x v ∙ h.size;
        own =
            λ j k.
            elim (dec_lt j c) [
              | yes y ↦ get_or-set_other new x (point n p j * m + f) v 0 (λ z. omega (arith, before m n p f c pos in_row j y)) ∙ h.own j y
              | no y ↦ let z : j ≡ c = omega arith in
                  ap (λ (i : ℕ). get_or (set new x v) i 0) (ap (λ (i : ℕ). point n p i * m + f) z ∙ sym q)
                  ∙ get_or-set_same new x v 0 (omega (arith, h.size))
                  ∙ e
                  ∙ ap given (sym z)
            ];
        others = λ y k. get_or-set_other new x y v 0 (λ z. k c (omega arith) (z ∙ q)) ∙ h.others y (λ j a. k j (omega arith));
      }

-- A BLOCK OF TICKS
-- the cells of the block were filled with 0
module _ (m begin end ticks : ℕ) (old part : List ℕ) (a : begin ≤ end) (b : end ≤ ticks) (fits : length old ≡ ticks * m)
    (zeros : part ≡ replicate (length (mid_of (begin * m) (end * m - begin * m) old)) 0) where
  abbrev new : List ℕ
  new = put_mid (begin * m) (end * m - begin * m) old part

  pub blank_size : length new ≡ ticks * m
  blank_size = same_len_mid (begin * m) (end * m - begin * m) old part (ap length zeros ∙ length-replicate (length (mid_of (begin * m) (end * m - begin * m) old)) 0) ∙ fits

  from_fits : begin * m ≤ end * m
  from_fits = mul-le-mul_right m a

  to_fits : end * m ≤ length old
  to_fits = omega (arith, mul-le-mul_right m b, fits)

  filled : part ≡ replicate (end * m - begin * m) 0
  filled = zeros ∙ ap (λ (n : ℕ). replicate n 0) (length-take-le (end * m - begin * m) (drop (begin * m) old) (omega (arith, length-drop (begin * m) old, from_fits, to_fits)))

  head : length (take (begin * m) old) ≡ begin * m
  head = length-take-le (begin * m) old (omega (arith, from_fits, to_fits))

  blank_inside : (i : ℕ) → begin * m ≤ i → i < end * m → get_or new i 0 ≡ 0
  blank_inside i x y =
      get_or-append_right (take (begin * m) old) _ (begin * m) i 0 head x
      ∙ get_or_append_left part _ 0 (i - begin * m) (omega (arith, ap length filled, length-replicate {A = ℕ} (end * m - begin * m) 0))
      ∙ ap (λ (l : List ℕ). get_or l (i - begin * m) 0) filled
      ∙ get_or-replicate (end * m - begin * m) (i - begin * m) 0 0 (omega arith)

  blank_before : (i : ℕ) → i < begin * m → get_or new i 0 ≡ get_or old i 0
  blank_before i x = get_or_append_left (take (begin * m) old) _ 0 i (omega (arith, head)) ∙ get_or-take (begin * m) old i 0 x

  pub blank : (want : ℕ → ℕ → ℕ) → FilledTo m begin want old → Filled m begin end 0 want new
  blank want h = record {
    early = record { before = λ t g x y. blank_before (t * m + g) (omega (arith, mul-le-mul_right m x, suc-mul t m)) ∙ h.before t g x y };
    inside = λ t g x y z. absurd (omega arith);
    beside = λ t g x y z u. blank_inside (t * m + g) (omega (arith, mul-le-mul_right m x)) (omega (arith, mul-le-mul_right m y, suc-mul t m));
  }

module _ (m : ℕ) (want : ℕ → ℕ → ℕ) where
  pub fill_all : (ticks begin : ℕ) (l : List ℕ) → ticks ≤ begin → length l ≡ ticks * m → FilledTo m begin want l → l ≡ cells_of m want ticks
  fill_all ticks begin l k e h = sym (cells_are m want ticks l e (λ t g x y. h.before t g (omega arith) y))

  module _ (begin end : ℕ) where
    -- one flow more, of which other cells than its own in the block are left
    module _ (f : ℕ) (l₀ l : List ℕ) (k : f < m) (h : Filled m begin end f want l₀)
        (others : (t g : ℕ) → g < m → (g ≡ f → ⊥) → cell_at m l t g ≡ cell_at m l₀ t g)
        (outside : (t : ℕ) → t < begin → cell_at m l t f ≡ cell_at m l₀ t f)
        (own : (t : ℕ) → begin ≤ t → t < end → cell_at m l t f ≡ want t f) where
      kept : (t g : ℕ) → g < m → t < begin → cell_at m l t g ≡ cell_at m l₀ t g
      kept t g x o = go (dec_lt g f) (dec_lt f g)
        where
          go : Dec (g < f) → Dec (f < g) → cell_at m l t g ≡ cell_at m l₀ t g
          go (yes y) z = others t g x (λ q. omega arith)
          go (no y) (yes z) = others t g x (λ q. omega arith)
          go (no y) (no z) = let q : f ≡ g = omega arith in subst (λ (i : ℕ). cell_at m l t i ≡ cell_at m l₀ t i) q (outside t o)

      fill_next : Filled m begin end (f + 1) want l
      fill_next =
          record {
            early = record { before = λ t g x y. kept t g y x ∙ h.early.before t g x y };
            inside =
                λ t g x y z.
                elim (dec_lt g f) [
                  | yes u ↦ others t g (omega arith) (λ q. omega arith) ∙ h.inside t g x y u
                  | no u ↦ let q : f ≡ g = omega arith in subst (λ (i : ℕ). cell_at m l t i ≡ want t i) q (own t x y)
                ];
            beside = λ t g x y z u. others t g u (λ q. omega arith) ∙ h.beside t g x y (omega arith) u;
          }

-- the due cells of flow f in the block were put, what is given to number j of them being what is wanted there
module _ (m : ℕ) (clocks : List ℕ) (ticks begin end : ℕ) (a : begin ≤ end) (f : ℕ) (l : f < m) (pos : 0 < period_in clocks f) where
  abbrev n : ℕ
  n = period_in clocks f

  abbrev p : ℕ
  p = phase_in clocks f

  abbrev start : ℕ
  start = next_in clocks begin f

  -- a due tick of the block by its number among them
  module _ (t : ℕ) (b : begin ≤ t) (k : t < end) (e : on_grid n p t ≡ true) where
    number : ℕ
    number = points n p t - points n p begin

    number_is : points n p begin + number ≡ points n p t
    unfolding number
    number_is = omega (arith, more_points n p begin t b)

    number_below : number < points n start end
    number_below = omega (arith, number_is, points_from n p pos begin end a, before_last n p t end e k)

    tick_of_lem : t ≡ point n start number
    tick_of_lem = omega (arith, tick_is n p pos t e, ap (λ (i : ℕ). i * n) number_is)

  module _ (want : ℕ → ℕ → ℕ) (given : ℕ → ℕ) (old new : List ℕ) (put : Put m n start f (points n start end) given old new)
      (own : (t : ℕ) (b : begin ≤ t) (k : t < end) (e : on_grid n p t ≡ true) → given (number t b k e) ≡ want t f)
      (none : (t : ℕ) → on_grid n p t ≡ false → 0 ≡ want t f) where
    -- no other cell is one of them: of another flow, before the block, or where it is not due
    other_flow : (t g : ℕ) → g < m → (g ≡ f → ⊥) → (j : ℕ) → j < points n start end → t * m + g ≡ point n start j * m + f → ⊥
    other_flow t g k ne j x e = ne (same_place m t g (point n start j) f k l e).1

    earlier : (t : ℕ) → t < begin → (j : ℕ) → j < points n start end → t * m + f ≡ point n start j * m + f → ⊥
    earlier t k j x e = omega (arith, (same_place m t f (point n start j) f l l e).0, from_begin n p pos begin)

    not_due : (t : ℕ) → on_grid n p t ≡ false → (j : ℕ) → j < points n start end → t * m + f ≡ point n start j * m + f → ⊥
    not_due t e j x q =
        off_grid {n = n} {p = p} {t = t} e record { whole = points n p begin + j; eq = omega (arith, (same_place m t f (point n start j) f l l q).0) }

    module _ (h : Filled m begin end f want old) where
      own_cell : (t : ℕ) → begin ≤ t → t < end → Tried (on_grid n p t) → cell_at m new t f ≡ want t f
      own_cell t b k (passed e) =
          ap (λ (i : ℕ). cell_at m new i f) (tick_of_lem t b k e) ∙ put.own (number t b k e) (number_below t b k e) ∙ own t b k e
      own_cell t b k (failed e) = put.others (t * m + f) (not_due t e) ∙ h.beside t f b k (omega arith) l ∙ none t e

      fill_more : Filled m begin end (f + 1) want new
      fill_more =
          fill_next m want begin end f old new l h (λ t g k ne. put.others (t * m + g) (other_flow t g k ne))
          (λ t o. put.others (t * m + f) (earlier t o)) (λ t b k. own_cell t b k (try (on_grid n p t)))

  -- marks, and the values of stored words; the column was put from its next due tick and place on
  module _ (from : Next) (on : from ≡ next_at m clocks ticks begin f) where
    pub marks_more : (old new : List ℕ) → Put m n from.tick f (points n from.tick end) (λ (j : ℕ). 1) old new
        → Filled m begin end f (restored_mark (clocks_in m clocks)) old → Filled m begin end (f + 1) (restored_mark (clocks_in m clocks)) new
    marks_more old new put =
        fill_more (restored_mark (clocks_in m clocks)) (λ (j : ℕ). 1) old new
        (subst (λ (k : Next). Put m n k.tick f (points n k.tick end) (λ (j : ℕ). 1) old new) on put) (λ t b k e. sym (want t ∙ ap bit e)) (λ t e. sym (want t ∙ ap bit e))
      where
        want : (t : ℕ) → restored_mark (clocks_in m clocks) t f ≡ bit (on_grid n p t)
        want t = ap (λ (c : Clock). bit (on_grid c.period c.phase t)) (clock_at_lem m clocks f l)

    pub values_more : (stored old new : List ℕ) → Put m n from.tick f (points n from.tick end) (λ (j : ℕ). get_or stored (from.place + j) 0) old new
        → Filled m begin end f (restored_value (clocks_in m clocks) ticks stored) old
        → Filled m begin end (f + 1) (restored_value (clocks_in m clocks) ticks stored) new
    values_more stored old new put =
        fill_more (restored_value (clocks_in m clocks) ticks stored) (λ (j : ℕ). get_or stored (place_in m clocks ticks begin f + j) 0) old new
        (subst (λ (k : Next). Put m n k.tick f (points n k.tick end) (λ (j : ℕ). get_or stored (k.place + j) 0) old new) on put)
        (λ t b k e. at t b k e ∙ sym (want t ∙ ap (λ (x : Bool). cond x (get_or (drop w stored) (points n p t) 0) 0) e))
        (λ t e. sym (want t ∙ ap (λ (x : Bool). cond x (get_or (drop w stored) (points n p t) 0) 0) e))
      where
        w : ℕ
        w = words_before (clocks_in m clocks) ticks f

        want : (t : ℕ) → restored_value (clocks_in m clocks) ticks stored t f ≡ spread n p (drop w stored) t
        want t = ap (λ (c : Clock). spread c.period c.phase (drop w stored) t) (clock_at_lem m clocks f l)

        at : (t : ℕ) (b : begin ≤ t) (k : t < end) (e : on_grid n p t ≡ true)
            → get_or stored (place_in m clocks ticks begin f + number t b k e) 0 ≡ get_or (drop w stored) (points n p t) 0
        at t b k e =
            let q : place_in m clocks ticks begin f + number t b k e ≡ w + points n p t = omega (arith, number_is t b k e) in
            ap (λ (i : ℕ). get_or stored i 0) q ∙ sym (get_or-drop w stored (points n p t) 0)

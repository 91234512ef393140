-- What a window and tallies hold is said outright: what they held before and a run's ticks leave no cell free. Assumes nothing.
use mathlib.Core.Path.{◌≡◌, sym, ◌∙◌, ap, subst}
use Prim.Native.Nat.{ℕ, suc, ◌+◌, ◌*◌, ◌-◌, ◌/◌, ◌%◌, ◌≤◌, ◌<◌}
use native.Mathlib.Nat.{mod-lt, mod-eq_of_lt, div-add-mod, div-add-mod', div-lt_iff_lt-mul, add-mul-mod_self_left}
use native.Mathlib.Decide.{dec_lt}
use native.Mathlib.Omega.{arith}
use mathlib.Core.List.{List}
use lib.ListN.{length, get_or}
use lib.Seq.{ext_get_or}
use Rattle.semantics.specs.Cells.{Cell}
use Rattle.semantics.specs.Runs.{Ticks}
use Rattle.semantics.specs.Windows.{Windowed, tally_size, Tallied}

-- the last of the ticks below l that falls on place q of a window
module _ (room l q : ℕ) (low : q < room) (reached : q < l) where
  latest_on : ℕ
  latest_on = q + room * ((l - suc q) / room)

  latest_place : latest_on % room ≡ q
  unfolding latest_on
  latest_place = add-mul-mod_self_left q room ((l - suc q) / room) ∙ mod-eq_of_lt low

  latest_below : (latest_on < l) × (l ≤ latest_on + room)
  unfolding latest_on
  latest_below =
      let d : room * ((l - suc q) / room) + (l - suc q) % room ≡ l - suc q = div-add-mod (l - suc q) room in
      let m : (l - suc q) % room < room = mod-lt (l - suc q) {m = room} (omega arith) in
      (omega arith, omega arith)

pub windows_same : (room n : ℕ) (g : Cell → ℕ) (ticks : Ticks) (old a b : List ℕ) → Windowed room n g ticks old a → Windowed room n g ticks old b → a ≡ b
windows_same room n g ticks old a b A B = ext_get_or 0 a b (A.size ∙ sym B.size) (λ i l. beyond i (dec_lt i (room * n)))
  where
    -- a place of the window that a tick has come to
    placed : (q f : ℕ) → f < n → q < room → q < length ticks → get_or a (q * n + f) 0 ≡ get_or b (q * n + f) 0
    placed q f l w h =
        let t : ℕ = latest_on room (length ticks) q w h in
        let e : t % room ≡ q = latest_place room (length ticks) q w h in
        let s = latest_below room (length ticks) q w h in
        subst (λ (p : ℕ). get_or a (p * n + f) 0 ≡ get_or b (p * n + f) 0) e (A.last t f s.0 s.1 l ∙ sym (B.last t f s.0 s.1 l))

    inside : (i : ℕ) → i < room * n → Dec (i < length ticks * n) → get_or a i 0 ≡ get_or b i 0
    inside i w (no z) = A.unreached i (omega (arith, z)) ∙ sym (B.unreached i (omega (arith, z)))
    inside i w (yes h) = go (dec_lt 0 n)
      where
        go : Dec (0 < n) → get_or a i 0 ≡ get_or b i 0
        go (no z) = let e : n ≡ 0 = omega (arith, z) in absurd (omega (arith, ap (λ (k : ℕ). room * k) e))
        go (yes y) =
            let q : i / n * n + i % n ≡ i = div-add-mod' i n in
            subst (λ (k : ℕ). get_or a k 0 ≡ get_or b k 0) q
            (placed (i / n) (i % n) (mod-lt i {m = n} y) ((div-lt_iff_lt-mul {k = n} {x = i} {y = room} y).1 w) ((div-lt_iff_lt-mul {k = n} {x = i} {y = length ticks} y).1 h))

    beyond : (i : ℕ) → Dec (i < room * n) → get_or a i 0 ≡ get_or b i 0
    beyond i (no z) = A.rest i (omega (arith, z)) ∙ sym (B.rest i (omega (arith, z)))
    beyond i (yes w) = inside i w (dec_lt i (length ticks * n))

pub tallies_same : (n : ℕ) (ticks : Ticks) (old a b : List ℕ) → Tallied n ticks old a → Tallied n ticks old b → a ≡ b
tallies_same n ticks old a b A B = ext_get_or 0 a b (A.size ∙ sym B.size) (λ i l. beyond i (dec_lt i (tally_size * n)))
  where
    word : (i : ℕ) → i < tally_size * n → Dec (i % 2 < 1) → get_or a i 0 ≡ get_or b i 0
    word i w (yes z) =
        let e : tally_size * (i / 2) ≡ i = omega (arith, z) in
        let f : i / 2 < n = omega arith in
        subst (λ (k : ℕ). get_or a k 0 ≡ get_or b k 0) e (A.counts (i / 2) f ∙ sym (B.counts (i / 2) f))
    word i w (no z) =
        let e : tally_size * (i / 2) + 1 ≡ i = omega (arith, z) in
        let f : i / 2 < n = omega arith in
        subst (λ (k : ℕ). get_or a k 0 ≡ get_or b k 0) e (A.lasts (i / 2) f ∙ sym (B.lasts (i / 2) f))

    beyond : (i : ℕ) → Dec (i < tally_size * n) → get_or a i 0 ≡ get_or b i 0
    beyond i (no z) = A.rest i (omega (arith, z)) ∙ sym (B.rest i (omega (arith, z)))
    beyond i (yes w) = word i w (dec_lt (i % 2) 1)

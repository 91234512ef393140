-- A flow that is present exactly on a progression, and what each operator makes of it. Assumes nothing.
use mathlib.Core.Path.{◌≡◌, refl, sym, ◌∙◌, ap, subst}
use Prim.Native.Nat.{ℕ, zero, suc, ◌+◌, ◌*◌, ◌-◌, ◌%◌, ◌/◌, ◌≤◌, ◌<◌}
use native.Mathlib.Nat.{eq_of_mul-eq-mul_right, div-add-mod', mul-mod_left, mod-lt}
use native.Mathlib.Decide.{ℕ_discrete}
use native.Mathlib.Omega.{arith}
use mathlib.Core.Bool.{Bool, true, false, cond, ◌&&◌, ◌||◌, not, false≢true, and-true}
use mathlib.Core.List.{[], ◌∷◌}
use mathlib.Core.Option.{none, some}
use lib.ListN.{length}
use lib.Dec.{eqb}
use borrow.Author.Tests.{eqb-true, eqb-false, eq-eqb, ne_eqb, lt-ltb, le-ltb}
use Rattle.table.proofs.Tests.{and_left, and_right, and_both, same_test, Tried, passed, failed, try}
use Rattle.semantics.specs.Cells.{Cell, absent, present, mark, History, back, count, Presence, latest, on_grid}
use Rattle.semantics.specs.Operators.{Step, is, clashes, copied, exactly, spaced, faster_of, slower_of, later_of, tail_of, evenly}
use Rattle.semantics.specs.Operators.{head_fits, head_of}
use Rattle.calendar.proofs.Grid.{On, on_of, of_on, off_grid, next, at_first, at_second}

-- present exactly at phase p plus whole periods n
abbrev pub Regular : ℕ → ℕ → History → Type 0
Regular n p [] = Unit {0}
Regular n p (c ∷ h) = (mark c ≡ on_grid n p (length h)) × Regular n p h

-- what the ticks so far show: no point yet, or the point number j is the latest, suc r ticks before
data Seen (n p : ℕ) (h : History) : Type 0 where
  early : length h ≤ p → latest h ≡ none → count h ≡ 0 → Seen n p h
  after : (j r : ℕ) (e : Presence) → length h ≡ e.tick + suc r → e.tick ≡ p + j * n → suc r ≤ n → latest h ≡ some e → count h ≡ suc j → Seen n p h

seen_present : (n p v : ℕ) (h : History) → 0 < n → On n p (length h) → Seen n p h → Seen n p (present v ∷ h)
unfolding latest count
seen_present n p v h pos o (early l a c) = after 0 0 record { tick = length h; value = v } (omega arith) (omega (arith, o.eq)) pos refl (ap suc c)
seen_present n p v h pos o (after j r e s g l a c) =
    let x : suc r ≡ n = next n o.whole j r (omega (arith, o.eq)) l in
    after (suc j) 0 record { tick = length h; value = v } (omega arith) (omega arith) pos refl (ap suc c)

seen_absent : (n p : ℕ) (h : History) → (On n p (length h) → ⊥) → Seen n p h → Seen n p (absent ∷ h)
unfolding latest count
seen_absent n p h o (early l a c) =
    early (elim (ℕ_discrete (length h) p) [ yes e ↦ absurd (o record { whole = 0; eq = omega arith }) | no x ↦ omega arith ]) a c
seen_absent n p h o (after j r e s g l a c) =
    elim (ℕ_discrete (suc r) n) [
      | yes x ↦ absurd (o record { whole = suc j; eq = omega arith })
      | no x ↦ after j (suc r) e (omega arith) g (omega arith) a c
    ]

seen : (n p : ℕ) (h : History) → 0 < n → Regular n p h → Seen n p h
unfolding latest count
seen n p [] pos g = early (omega arith) refl refl
seen n p (present v ∷ h) pos g = seen_present n p v h pos (on_of n p _ (sym g.0)) (seen n p h pos g.1)
seen n p (absent ∷ h) pos g = seen_absent n p h (off_grid (sym g.0)) (seen n p h pos g.1)

-- at point number i there were i presences before
count_on : (n p : ℕ) (h : History) → 0 < n → Regular n p h → (o : On n p (length h)) → count h ≡ o.whole
count_on n p h pos g o = go (seen n p h pos g)
  where
    go : Seen n p h → count h ≡ o.whole
    go (early l a c) = c ∙ sym (eq_of_mul-eq-mul_right n pos o.whole 0 (omega (arith, o.eq)))
    go (after j r e s x l a c) =
        let y : suc r ≡ n = next n o.whole j r (omega (arith, o.eq)) l in
        c ∙ eq_of_mul-eq-mul_right n pos (suc j) o.whole (omega (arith, o.eq))

pub cond_mark : (b : Bool) (c : Cell) → mark (cond b c absent) ≡ (b && mark c)
cond_mark true c = refl
cond_mark false c = refl

-- a cell i ticks back is present exactly where its tick is on the progression
pub record Back (n p : ℕ) (h : History) (i : ℕ) : Type 0 where
  pub tick : ℕ
  pub place : tick + suc i ≡ length h
  pub on : On n p tick

back_on : (n p : ℕ) (h : History) (i : ℕ) → Regular n p h → mark (back h i) ≡ true → Back n p h i
back_on n p [] i g e = absurd (false≢true e)
back_on n p (c ∷ h) zero g e = record { tick = length h; place = omega arith; on = on_of n p _ (sym g.0 ∙ e) }
back_on n p (c ∷ h) (suc i) g e =
    let b : Back n p h i = back_on n p h i g.1 e in
    record { tick = b.tick; place = omega (arith, b.place); on = b.on }

pub on_back : (n p : ℕ) (h : History) (i : ℕ) → Regular n p h → Back n p h i → mark (back h i) ≡ true
on_back n p [] i g b = absurd (omega (arith, b.place))
on_back n p (c ∷ h) zero g b = g.0 ∙ of_on (subst (λ (t : ℕ). On n p t) (omega (arith, b.place)) b.on)
on_back n p (c ∷ h) (suc i) g b = on_back n p h i g.1 record { tick = b.tick; place = omega (arith, b.place); on = b.on }

-- a copy among k, a gap g apart, from j ticks back on
record Copy (k g j : ℕ) (h : History) : Type 0 where
  number : ℕ
  below : number < k
  found : mark (back h (j + number * g)) ≡ true

some_copy : (k g j : ℕ) (h : History) → mark (copied k g j h) ≡ true → Copy k g j h
unfolding copied
some_copy zero g j h e = absurd (false≢true e)
some_copy (suc k) g j h e = go (some_copy k g (j + g) h) (try (mark (back h j)))
  where
    go : (mark (copied k g (j + g) h) ≡ true → Copy k g (j + g) h) → Tried (mark (back h j)) → Copy (suc k) g j h
    go f (passed x) = record { number = 0; below = omega arith; found = subst (λ (i : ℕ). mark (back h i) ≡ true) (omega arith) x }
    go f (failed x) =
        let r : Copy k g (j + g) h = f (rw x at e) in
        record { number = suc r.number; below = omega (arith, r.below); found = subst (λ (i : ℕ). mark (back h i) ≡ true) (omega arith) r.found }

a_copy : (k g j : ℕ) (h : History) (m : ℕ) → m < k → mark (back h (j + m * g)) ≡ true → mark (copied k g j h) ≡ true
unfolding copied
a_copy zero g j h m l e = absurd (omega arith)
a_copy (suc k) g j h m l e = go m l e (a_copy k g (j + g) h) (try (mark (back h j)))
  where
    go : (m : ℕ) → m < suc k → mark (back h (j + m * g)) ≡ true
        → ((m : ℕ) → m < k → mark (back h (j + g + m * g)) ≡ true → mark (copied k g (j + g) h) ≡ true)
        → Tried (mark (back h j)) → mark (cond (mark (back h j)) (back h j) (copied k g (j + g) h)) ≡ true
    go m l e f (passed x) = rw x x
    go zero l e f (failed x) = absurd (false≢true (sym x ∙ subst (λ (i : ℕ). mark (back h i) ≡ true) (omega arith) e))
    go (suc m) l e f (failed x) = rw x (f m (omega arith) (subst (λ (i : ℕ). mark (back h i) ≡ true) (omega arith) e))

-- a row that does not clash, present as the test says
pub record Makes (s : Step) (due : Bool) : Type 0 where
  pub cell : Cell
  pub eq : s ≡ is cell
  pub due_eq : mark cell ≡ due

module _ (n p : ℕ) (c : Cell) (h : History) (pos : 0 < n) (g : Regular n p (c ∷ h)) where
  now_on : mark c ≡ true → On n p (length h)
  now_on e = on_of n p _ (sym g.0 ∙ e)

  on_now : On n p (length h) → mark c ≡ true
  on_now o = g.0 ∙ of_on o

  pub later_law : (d : ℕ) → mark (later_of d c h) ≡ on_grid n (p + d) (length h)
  unfolding later_of
  later_law d = same_test _ _ to from
    where
      to : mark (back (c ∷ h) d) ≡ true → on_grid n (p + d) (length h) ≡ true
      to e =
          let b : Back n p (c ∷ h) d = back_on n p (c ∷ h) d g e in
          of_on record { whole = b.on.whole; eq = omega (arith, b.place, b.on.eq) }

      from : on_grid n (p + d) (length h) ≡ true → mark (back (c ∷ h) d) ≡ true
      from e =
          let o : On n (p + d) (length h) = on_of _ _ _ e in
          on_back n p (c ∷ h) d g record { tick = p + o.whole * n; place = omega (arith, o.eq); on = record { whole = o.whole; eq = refl } }

  pub tail_law : mark (tail_of c h) ≡ on_grid n (p + n) (length h)
  unfolding tail_of
  tail_law = same_test _ _ (to (try (eqb (count h) 0))) from
    where
      to : Tried (eqb (count h) 0) → mark (cond (eqb (count h) 0) absent c) ≡ true → on_grid n (p + n) (length h) ≡ true
      to (passed z) e = absurd (false≢true (rw z at e))
      to (failed z) e =
          let o : On n p (length h) = now_on (rw z at e) in
          let x : (count h ≡ 0 → ⊥) = eqb-false _ _ z in
          at_suc o.whole o.eq (rw (count_on n p h pos g.1 o) at x)
        where
          at_suc : (i : ℕ) → length h ≡ p + i * n → (i ≡ 0 → ⊥) → on_grid n (p + n) (length h) ≡ true
          at_suc zero q y = absurd (y refl)
          at_suc (suc i) q y = of_on record { whole = i; eq = omega arith }

      from : on_grid n (p + n) (length h) ≡ true → mark (cond (eqb (count h) 0) absent c) ≡ true
      from e =
          let o : On n (p + n) (length h) = on_of _ _ _ e in
          let o' : On n p (length h) = record { whole = suc o.whole; eq = omega (arith, o.eq) } in
          let k : count h ≡ suc o.whole = count_on n p h pos g.1 o' in
          rw (ne_eqb (count h) 0 (λ (q : count h ≡ 0). omega arith)) (on_now o')

  pub slower_law : (k : ℕ) → mark (slower_of k c h) ≡ on_grid (k * n) p (length h)
  unfolding slower_of
  slower_law k = cond_mark (eqb (count h % k) 0) c ∙ same_test _ _ to from
    where
      to : (eqb (count h % k) 0 && mark c) ≡ true → on_grid (k * n) p (length h) ≡ true
      to e =
          let o : On n p (length h) = now_on (and_right (eqb (count h % k) 0) (mark c) e) in
          let z : count h % k ≡ 0 = eqb-true _ _ (and_left (eqb (count h % k) 0) (mark c) e) in
          let x : count h ≡ o.whole = count_on n p h pos g.1 o in
          let d : count h / k * k + count h % k ≡ count h = div-add-mod' (count h) k in
          let y : o.whole ≡ count h / k * k = omega arith in
          of_on record { whole = count h / k; eq = o.eq ∙ rw y (omega arith) }

      from : on_grid (k * n) p (length h) ≡ true → (eqb (count h % k) 0 && mark c) ≡ true
      from e =
          let o : On (k * n) p (length h) = on_of _ _ _ e in
          let o' : On n p (length h) = record { whole = o.whole * k; eq = o.eq ∙ omega arith } in
          let x : count h ≡ o.whole * k = count_on n p h pos g.1 o' in
          and_both (eq-eqb (count h % k) 0 (rw x (mul-mod_left o.whole k))) (on_now o')

  copies_law : (k gap : ℕ) → 0 < k → n ≡ k * gap → mark (copied k gap 0 (c ∷ h)) ≡ on_grid gap p (length h)
  copies_law k gap kpos e = same_test _ _ to from
    where
      to : mark (copied k gap 0 (c ∷ h)) ≡ true → on_grid gap p (length h) ≡ true
      to x =
          let r : Copy k gap 0 (c ∷ h) = some_copy k gap 0 (c ∷ h) x in
          let b : Back n p (c ∷ h) (0 + r.number * gap) = back_on n p (c ∷ h) (0 + r.number * gap) g r.found in
          let y : (w : ℕ) → w * n ≡ w * k * gap = λ w. rw e (omega arith) in
          of_on record { whole = b.on.whole * k + r.number; eq = omega (arith, b.place, b.on.eq, y b.on.whole) }

      from : on_grid gap p (length h) ≡ true → mark (copied k gap 0 (c ∷ h)) ≡ true
      from x =
          let o : On gap p (length h) = on_of _ _ _ x in
          let w : ℕ = o.whole in
          let d : w / k * k + w % k ≡ w = div-add-mod' w k in
          let y : w * gap ≡ w / k * n + w % k * gap = ap (λ (z : ℕ). z * gap) (sym d) ∙ rw e (omega arith) in
          a_copy k gap 0 (c ∷ h) (w % k) (mod-lt w kpos)
          (on_back n p (c ∷ h) (0 + w % k * gap) g
          record { tick = p + w / k * n; place = omega (arith, o.eq, y); on = record { whole = w / k; eq = refl } })

-- at point number i + 1 the latest presence is a period before
period_ago : (n p : ℕ) (h : History) → 0 < n → Regular n p h → On n p (length h) → exactly n (length h) (latest h) ≡ true
period_ago n p h pos g o = go (seen n p h pos g)
  where
    go : Seen n p h → exactly n (length h) (latest h) ≡ true
    go (early l a c) = rw a
    go (after j r e s x l a c) = rw a (eq-eqb (length h - e.tick) n (omega (arith, next n o.whole j r (omega (arith, o.eq)) l)))

spaced_law : (n p : ℕ) (c : Cell) (h : History) → 0 < n → Regular n p (c ∷ h) → spaced n c h ≡ true
spaced_law n p absent h pos g = refl
spaced_law n p (present v) h pos g = period_ago n p h pos g.1 (on_of n p _ (sym g.0))

pub faster_law : (n p : ℕ) (c : Cell) (h : History) → 0 < n → Regular n p (c ∷ h) → (k gap : ℕ) → 0 < k → n ≡ k * gap
    → Makes (faster_of k gap c h) (on_grid gap p (length h))
unfolding faster_of
faster_law n p c h pos g k gap kpos e =
    let s : spaced (k * gap) c h ≡ true = subst (λ (m : ℕ). spaced m c h ≡ true) e (spaced_law n p c h pos g) in
    record { cell = copied k gap 0 (c ∷ h); eq = rw s; due_eq = copies_law n p c h pos g k gap kpos e }

head_fits_lem : (n p s : ℕ) (h : History) → 0 < n → p ≡ s + n → Regular n p h → On n p (length h) → head_fits s (length h) h ≡ true
unfolding head_fits
head_fits_lem n p s h pos e g o = and_both (lt-ltb s (length h) (omega (arith, o.eq))) (go (seen n p h pos g))
  where
    go : Seen n p h → (not (eqb (count h) 1) || evenly s (length h) (latest h)) ≡ true
    go (early l a c) = rw c
    go (after zero r q x y l a c) =
        let z : suc r ≡ n = next n o.whole 0 r (omega (arith, o.eq)) l in
        rw (c, a) (eq-eqb (q.tick - s) (length h - q.tick) (omega arith))
    go (after (suc j) r q x y l a c) = rw (c, ne_eqb (suc (suc j)) 1 (λ (b : suc (suc j) ≡ 1). omega arith))

pub head_law : (n p : ℕ) (c : Cell) (h : History) → 0 < n → Regular n p (c ∷ h) → (v s : ℕ) → p ≡ s + n
    → Makes (head_of v s c h) (on_grid n s (length h))
unfolding head_of
head_law n p absent h pos g v s e =
    record { cell = cond (eqb (length h) s) (present v) absent; eq = refl; due_eq = cond_mark (eqb (length h) s) (present v) ∙ and-true _ ∙ same_test _ _ to from }
  where
    to : eqb (length h) s ≡ true → on_grid n s (length h) ≡ true
    to x = at_first n s (length h) (eqb-true (length h) s x)

    from : on_grid n s (length h) ≡ true → eqb (length h) s ≡ true
    from x = at (on_of _ _ _ x).whole (on_of _ _ _ x).eq
      where
        at : (i : ℕ) → length h ≡ s + i * n → eqb (length h) s ≡ true
        at zero q = eq-eqb (length h) s (omega arith)
        at (suc i) q = absurd (off_grid {n = n} {p = p} (sym g.0) record { whole = i; eq = omega arith })
head_law n p (present x) h pos g v s e =
    let o : On n p (length h) = on_of n p _ (sym g.0) in
    record { cell = present x; eq = rw (head_fits_lem n p s h pos e g.1 o); due_eq = sym (of_on record { whole = suc o.whole; eq = omega (arith, o.eq) }) }

-- Where an operator does not suit the progression, it clashes by the second point.
second : (n p : ℕ) (h : History) → 0 < n → Regular n p h → length h ≡ p + n → (e : Presence) × (latest h ≡ some e) × (e.tick ≡ p) × (count h ≡ 1)
second n p h pos g x = go (seen n p h pos g)
  where
    go : Seen n p h → (e : Presence) × (latest h ≡ some e) × (e.tick ≡ p) × (count h ≡ 1)
    go (early l a c) = absurd (omega arith)
    go (after zero r e s y l a c) = (e, a, omega arith, c)
    go (after (suc j) r e s y l a c) = absurd (omega arith)

pub faster_clash : (n p : ℕ) (c : Cell) (h : History) → 0 < n → Regular n p (c ∷ h) → (k gap : ℕ) → (n ≡ k * gap → ⊥) → length h ≡ p + n → faster_of k gap c h ≡ clashes
unfolding faster_of
faster_clash n p absent h pos g k gap d x = absurd (false≢true (g.0 ∙ at_second n p _ x))
faster_clash n p (present v) h pos g k gap d x =
    let y = second n p h pos g.1 x in
    let z : y.0.tick ≡ p = y.2 in
    rw (y.1, ne_eqb (length h - y.0.tick) (k * gap) (λ (q : length h - y.0.tick ≡ k * gap). d (omega arith)))

pub head_early : (n p : ℕ) (c : Cell) (h : History) → Regular n p (c ∷ h) → (v s : ℕ) → p ≤ s → length h ≡ p → head_of v s c h ≡ clashes
unfolding head_of head_fits
head_early n p absent h g v s l x = absurd (false≢true (g.0 ∙ at_first n p _ x))
head_early n p (present w) h g v s l x = rw (le-ltb s (length h) (omega arith))

pub head_clash : (n p : ℕ) (c : Cell) (h : History) → 0 < n → Regular n p (c ∷ h) → (v s : ℕ) → s < p → (p ≡ s + n → ⊥) → length h ≡ p + n → head_of v s c h ≡ clashes
unfolding head_of head_fits
head_clash n p absent h pos g v s l d x = absurd (false≢true (g.0 ∙ at_second n p _ x))
head_clash n p (present w) h pos g v s l d x =
    let y = second n p h pos g.1 x in
    let z : y.0.tick ≡ p = y.2 in
    rw (lt-ltb s (length h) (omega arith), y.1, y.3, ne_eqb (y.0.tick - s) (length h - y.0.tick) (λ (q : y.0.tick - s ≡ length h - y.0.tick). d (omega arith)))

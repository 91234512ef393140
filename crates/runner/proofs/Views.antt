-- A view's step from three words is its step from the histories, and the words then say the same of one tick more. Assumes nothing.
use Rattle.std.proofs.Common.{◌≡◌, ℕ, suc, ◌+◌, ◌-◌, ◌*◌, ◌/◌, ◌<◌, ◌≤◌, Bool, true, false, cond, eqb, leb, [], ◌∷◌, length, sym, refl, ap, ◌∙◌}
use Rattle.std.proofs.Common.{div-lt_iff_lt-mul, le-div_iff_mul-le, arith, eq-eqb, ne_eqb, eqb-true, leb-false, leb-true}
use mathlib.Core.Bool.{beq}
use mathlib.Core.Option.{Option, none, some}
use borrow.Author.Tests.{eqb-false}
use Rattle.table.specs.Bits.{bit}
use Rattle.table.proofs.Tests.{Tried, passed, failed, try}
use Rattle.semantics.specs.Cells.{Cell, absent, present, mark, History, back, cell_on, first_or, first}
use Rattle.semantics.specs.Operators.{is, clashes, truth_of, looked_at, seen, governed, viewed}
use Rattle.semantics.proofs.Traces.{tick_back, tick_now, tick_before}
use Rattle.runner.specs.declared.carried.Held.{Held}
use Rattle.runner.specs.Private.Carried.{status, view_next, view_pass, view_step, look_for}
use Rattle.runner.specs.Private.Ready.{Views, waiting, ready, seeing, Looked}

never_is : {c : Cell} {A : Type 0} → clashes ≡ is c → A
never_is e = absurd (let z : ◌≡◌ {A = ℕ} 0 1 = cc in omega arith)

-- a first presence stays the first
first_more : (c : Cell) (h : History) (s : ℕ) → first h ≡ some s → first (c ∷ h) ≡ some s
unfolding first
first_more c h s e = rw e

first_now : (v : ℕ) (h : History) → first h ≡ none → first (present v ∷ h) ≡ some (length h)
unfolding first
first_now v h e = rw e

first_not : (h : History) → first h ≡ none → first (absent ∷ h) ≡ none
unfolding first
first_not h e = rw e

pub first_low : (h : History) (s : ℕ) → first h ≡ some s → s < length h
unfolding first
first_low [] s e = absurd (let z : ◌≡◌ {A = ℕ} 0 1 = cc in omega arith)
first_low (c ∷ h) s e = go (first h) refl c e (first_low h)
  where
    go : (o : Option ℕ) → first h ≡ o → (c : Cell) → first_or o (length h) c ≡ some s → ((s : ℕ) → first h ≡ some s → s < length h) → s < suc (length h)
    go (some r) x c q next = let p : r ≡ s = cc in omega (arith, next r x)
    go none x absent q next = absurd (let z : ◌≡◌ {A = ℕ} 0 1 = cc in omega arith)
    go none x (present v) q next = let p : length h ≡ s = cc in omega arith

-- a status decides as its cell does
pass_is : (u : Bool) (x : ℕ) (c : Cell) → view_pass u x (status c) ≡ governed u x c
pass_is u x absent = refl
pass_is u x (present v) = go (truth_of v) u
  where
    go : (b u : Bool) → view_pass u x (1 + bit b) ≡ is (cond (beq b u) (present x) absent)
    go true true = refl
    go true false = refl
    go false true = refl
    go false false = refl

-- in view period number j since s
period : (w s j t : ℕ) → 0 < w → s + w * j ≤ t → t < s + w * suc j → (t - s) / w ≡ j
period w s j t pos a b =
    let low : j ≤ (t - s) / w = (le-div_iff_mul-le pos).1 (omega arith) in
    let high : (t - s) / w < suc j = (div-lt_iff_lt-mul pos).1 (omega arith) in
    omega arith

looked : (w s r j t : ℕ) → 0 < w → s + w * j ≤ t → t < s + w * suc j → looked_at w s r t ≡ r + w * j
looked w s r j t pos a b = rw (period w s j t pos a b) (omega arith)

module _ (w : ℕ) (pos : 0 < w) (ha hc : History) (same : length ha ≡ length hc) (h : Held) where
  -- the status that the words then hold is that of the cell at which the definition looks
  governs : (x : ℕ) (c : Cell) → Views w ha hc h → Looked (length ha) h
      → (view_next w (length ha) true (status c) h).z ≡ status (seen w (length ha) (first (present x ∷ ha)) (first (c ∷ hc)) (c ∷ hc))
  governs x absent (waiting a b p q) f = rw (eq-eqb h.x 0 p, eq-eqb h.z 0 q, first_now x ha a, first_not hc b)
  governs x (present v) (waiting a b p q) f =
      rw (eq-eqb h.x 0 p, eq-eqb h.z 0 q, first_now x ha a, first_now v hc b)
      (ap status (sym (tick_now (present v) hc _ (looked w (length ha) (length hc) 0 (length ha) pos (omega arith) (omega arith) ∙ omega arith))))
  governs x c (ready r a b p q n z) f =
      rw (eq-eqb h.x 0 p, ne_eqb h.z 0 (λ (e : h.z ≡ 0). omega arith), first_now x ha a, first_more c hc r b)
      (z ∙ ap status (sym (tick_before c hc r (first_low hc r b))
      ∙ ap (cell_on (c ∷ hc)) (sym (looked w (length ha) r 0 (length ha) pos (omega arith) (omega arith) ∙ omega arith))))
  governs x c (seeing s r j a b d p l m i z) f = go (try (eqb (length ha) h.x))
    where
      nz : eqb h.x 0 ≡ false
      nz = ne_eqb h.x 0 (λ (q : h.x ≡ 0). omega arith)

      go : Tried (eqb (length ha) h.x) → (view_next w (length ha) true (status c) h).z ≡ status (seen w (length ha) (first (present x ∷ ha)) (first (c ∷ hc)) (c ∷ hc))
      go (passed e) =
          let t : length ha ≡ h.x = eqb-true _ _ e in
          let y : h.y ≡ 0 = f (omega arith) t in
          rw (nz, e, first_more (present x) ha s a, first_more c hc r b)
          (ap status (sym (tick_now c hc _ (looked w s r (suc j) (length ha) pos (omega arith) (omega arith) ∙ omega arith))))
      go (failed e) =
          let t : (length ha ≡ h.x → ⊥) = eqb-false _ _ e in
          rw (nz, e, first_more (present x) ha s a, first_more c hc r b)
          (z ∙ ap status (sym (tick_before c hc (r + w * j) i) ∙ ap (cell_on (c ∷ hc)) (sym (looked w s r j (length ha) pos l (omega arith)))))

  pub view_steps : (u : Bool) (a c : Cell) → Views w ha hc h → Looked (length ha) h
      → view_step u a (view_next w (length ha) (mark a) (status c) h) ≡ viewed u w a ha c hc
  unfolding viewed
  view_steps u absent c d f = refl
  view_steps u (present x) c d f = rw (governs x c d f) (pass_is u x (seen w (length ha) (first (present x ∷ ha)) (first (c ∷ hc)) (c ∷ hc)))

  -- from a's first presence at this tick on
  begins : (x r y : ℕ) (c : Cell) (g : ℕ) → first ha ≡ none → first (c ∷ hc) ≡ some r → y ≡ r → g ≡ status (cell_on (c ∷ hc) r)
      → Views w (present x ∷ ha) (c ∷ hc) (record h { x = length ha + w; y = length ha - y; z = g })
  begins x r y c g a b e z =
      let l : r < suc (length hc) = first_low (c ∷ hc) r b in
      let q : r + w * 0 ≡ r = omega arith in
      seeing (length ha) r 0 (first_now x ha a) b (omega arith) (omega arith) (omega arith) (omega arith) (omega arith)
      (z ∙ ap (λ (i : ℕ). status (cell_on (c ∷ hc) i)) (sym q))

  -- after it
  goes_on : (a c : Cell) (s r j : ℕ) → first ha ≡ some s → first hc ≡ some r → r + h.y ≡ s → h.x ≡ s + w * suc j → s + w * j ≤ length ha → length ha ≤ h.x
      → r + w * j < length hc → h.z ≡ status (cell_on hc (r + w * j)) → Looked (length ha) h → Views w (a ∷ ha) (c ∷ hc) (view_next w (length ha) (mark a) (status c) h)
  goes_on a c s r j x y d p l m i z f = go (try (eqb (length ha) h.x))
    where
      nz : eqb h.x 0 ≡ false
      nz = ne_eqb h.x 0 (λ (q : h.x ≡ 0). omega arith)

      go : Tried (eqb (length ha) h.x) → Views w (a ∷ ha) (c ∷ hc) (view_next w (length ha) (mark a) (status c) h)
      go (passed e) =
          let t : length ha ≡ h.x = eqb-true _ _ e in
          let q : h.y ≡ 0 = f (omega arith) t in
          rw (nz, e)
          (seeing s r (suc j) (first_more a ha s x) (first_more c hc r y) d (omega arith) (omega arith) (omega arith) (omega arith)
          (ap status (sym (tick_now c hc (r + w * suc j) (omega arith)))))
      go (failed e) =
          let t : (length ha ≡ h.x → ⊥) = eqb-false _ _ e in
          rw (nz, e)
          (seeing s r j (first_more a ha s x) (first_more c hc r y) d p (omega arith) (omega arith) (omega arith)
          (z ∙ ap status (sym (tick_before c hc (r + w * j) i))))

  pub view_follows : (u : Bool) (a c cell : Cell) → Views w ha hc h → Looked (length ha) h → view_step u a (view_next w (length ha) (mark a) (status c) h) ≡ is cell
      → Views w (a ∷ ha) (c ∷ hc) (view_next w (length ha) (mark a) (status c) h)
  view_follows u absent absent cell (waiting a b p q) f e = rw (eq-eqb h.x 0 p, eq-eqb h.z 0 q) (waiting (first_not ha a) (first_not hc b) p refl)
  view_follows u absent (present v) cell (waiting a b p q) f e =
      rw (eq-eqb h.x 0 p, eq-eqb h.z 0 q)
      (ready (length hc) (first_not ha a) (first_now v hc b) p same (omega arith) (ap status (sym (tick_now (present v) hc (length hc) refl))))
  view_follows u (present x) absent cell (waiting a b p q) f e = never_is (rw (eq-eqb h.x 0 p, eq-eqb h.z 0 q) at e)
  view_follows u (present x) (present v) cell (waiting a b p q) f e =
      rw (eq-eqb h.x 0 p, eq-eqb h.z 0 q)
      (begins x (length hc) (length ha) (present v) (status (present v)) a (first_now v hc b) same (ap status (sym (tick_now (present v) hc (length hc) refl))))
  view_follows u absent c cell (ready r a b p q n z) f e =
      rw (eq-eqb h.x 0 p, ne_eqb h.z 0 (λ (k : h.z ≡ 0). omega arith))
      (ready r (first_not ha a) (first_more c hc r b) p q n (z ∙ ap status (sym (tick_before c hc r (first_low hc r b)))))
  view_follows u (present x) c cell (ready r a b p q n z) f e =
      rw (eq-eqb h.x 0 p, ne_eqb h.z 0 (λ (k : h.z ≡ 0). omega arith))
      (begins x r h.y c h.z a (first_more c hc r b) q (z ∙ ap status (sym (tick_before c hc r (first_low hc r b)))))
  view_follows u absent c cell (seeing s r j a b d p l m i z) f e = goes_on absent c s r j a b d p l m i z f
  view_follows u (present x) c cell (seeing s r j a b d p l m i z) f e = goes_on (present x) c s r j a b d p l m i z f

  -- what is looked for before the tick; and how far back that is, where c is looked at anew
  pub view_looks : Views w ha hc h
      → Views w ha hc (look_for w (length ha) (back hc (h.y - 1)) h) × Looked (length ha) (look_for w (length ha) (back hc (h.y - 1)) h)
  view_looks d = go d (try (eqb (length ha) h.x)) (try (eqb h.y 0)) (try (leb h.y (length ha)))
    where
      go : Views w ha hc h → Tried (eqb (length ha) h.x) → Tried (eqb h.y 0) → Tried (leb h.y (length ha))
          → Views w ha hc (look_for w (length ha) (back hc (h.y - 1)) h) × Looked (length ha) (look_for w (length ha) (back hc (h.y - 1)) h)
      go d (failed e) n k = rw e (d, λ p t. absurd (eqb-false _ _ e t))
      go d (passed e) (passed n) k = rw (e, n) (d, λ p t. eqb-true _ _ n)
      go (waiting a b p q) (passed e) (failed n) (failed k) = rw (e, n, k) (waiting a b p q, λ x t. absurd (omega arith))
      go (waiting a b p q) (passed e) (failed n) (passed k) =
          let t : length ha ≡ h.x = eqb-true _ _ e in
          let y : (h.y ≡ 0 → ⊥) = eqb-false _ _ n in
          let l : h.y ≤ length ha = leb-true _ _ k in
          absurd (omega arith)
      go (ready r a b p q m z) (passed e) (failed n) k = absurd (let t : length ha ≡ h.x = eqb-true _ _ e in omega (arith, first_low hc r b))
      go (seeing s r j a b d p l m i z) (passed e) (failed n) (failed k) = let y : length ha < h.y = leb-false _ _ k in absurd (omega arith)
      go (seeing s r j a b d p l m i z) (passed e) (failed n) (passed k) =
          let t : length ha ≡ h.x = eqb-true _ _ e in
          let y : (h.y ≡ 0 → ⊥) = eqb-false _ _ n in
          rw (e, n, k) (
            seeing s r (suc j) a b d (omega arith) (omega arith) (omega arith) (omega arith) (ap status (sym (tick_back hc (r + w * suc j) (h.y - 1) (omega arith)))),
            λ x t'. absurd (omega arith),
          )

-- how far back a view looks: as many ticks as c began before a
pub lag_of : (w : ℕ) (ha hc : History) (h : Held) → Views w ha hc h → 0 < h.x → (s : ℕ) × (r : ℕ) × (first ha ≡ some s) × (first hc ≡ some r) × (r + h.y ≡ s)
lag_of w ha hc h (waiting a b p q) l = absurd (omega arith)
lag_of w ha hc h (ready r a b p q n z) l = absurd (omega arith)
lag_of w ha hc h (seeing s r j a b d p l' m i z) l = (s, r, a, b, d)

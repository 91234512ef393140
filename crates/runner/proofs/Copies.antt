-- A faster row from its words: the copies of the latest presence, while the presences are k × g ticks apart. Assumes nothing.
use Rattle.std.proofs.Common.{◌≡◌, ℕ, zero, suc, ◌+◌, ◌-◌, ◌*◌, ◌<◌, ◌≤◌, Bool, true, false, cond, eqb, ltb, ◌⊎◌, ◌∷◌, length, sym, refl, ap, ◌∙◌}
use Rattle.std.proofs.Common.{inl, inr, ⊎_elim, mul-le-mul_right, suc-mul, mul-le-mul, lt_of_mul-lt-mul_right, mul-lt-mul_of_pos_right, one-mul}
use Rattle.std.proofs.Common.{zero-add, zero-mul, arith, ltb-false, ltb-true, le-ltb, eq-eqb, ne_eqb, eqb-true}
use borrow.Author.Tests.{eqb-false}
use Rattle.table.proofs.Tests.{Tried, passed, failed, try, same_test}
use Rattle.semantics.specs.Cells.{Cell, absent, present, History, back, latest}
use Rattle.semantics.specs.Operators.{Step, is, clashes, clash_unless, copied, faster_of}
use Rattle.runner.specs.declared.carried.Held.{Held}
use Rattle.runner.specs.Private.Carried.{faster_step, faster_next, begun}
use Rattle.runner.specs.Private.Ready.{Copying, Copies, unseen, copying}

copied_none : (k g j : ℕ) (h : History) → ((i : ℕ) → i < k → back h (j + i * g) ≡ absent) → copied k g j h ≡ absent
unfolding copied
copied_none zero g j h e = refl
copied_none (suc k) g j h e =
    rw (first) (copied_none k g (j + g) h (λ i l. ap (back h) (later i) ∙ e (suc i) (omega arith)))
  where
    first : back h j ≡ absent
    first = ap (back h) (let z : zero * g ≡ 0 = zero-mul g in omega arith) ∙ e 0 (omega arith)

    later : (i : ℕ) → j + g + i * g ≡ j + suc i * g
    later i = omega (arith, suc-mul i g)

copied_at : (k g j i v : ℕ) (h : History) → i < k → back h (j + i * g) ≡ present v → ((m : ℕ) → m < i → back h (j + m * g) ≡ absent) → copied k g j h ≡ present v
unfolding copied
copied_at zero g j i v h l e q = absurd (omega arith)
copied_at (suc k) g j zero v h l e q = rw (first)
  where
    first : back h j ≡ present v
    first = ap (back h) (let z : zero * g ≡ 0 = zero-mul g in omega arith) ∙ e
copied_at (suc k) g j (suc i) v h l e q =
    rw (first) (copied_at k g (j + g) i v h (omega arith) (ap (back h) (later i) ∙ e) (λ m s. ap (back h) (later m) ∙ q (suc m) (omega arith)))
  where
    first : back h j ≡ absent
    first = ap (back h) (let z : zero * g ≡ 0 = zero-mul g in omega arith) ∙ q 0 (omega arith)

    later : (m : ℕ) → j + g + m * g ≡ j + suc m * g
    later m = omega (arith, suc-mul m g)

-- multiples of a gap that is not 0
mul_less : (i k g : ℕ) → 1 ≤ g → i < k → i * g < k * g
mul_less i k g p l = mul-lt-mul_of_pos_right l p

module _ (k g : ℕ) (h : History) (w : Held) (p : 1 ≤ g) (s : Copying k g h w) where
  -- at no other distance from the presence is there another
  quiet_now : (i : ℕ) → i < k → (i * g ≡ suc s.d → ⊥) → back (absent ∷ h) (i * g) ≡ absent
  quiet_now i l n = go (i * g) refl (mul_less i k g p l)
    where
      go : (m : ℕ) → m ≡ i * g → i * g < k * g → back (absent ∷ h) m ≡ absent
      go zero e b = refl
      go (suc m) e b = s.quiet m (omega arith) (λ z. n (omega arith))

  -- the copy that is due has the next number
  no_copy : (length h ≡ w.y → ⊥) ⊎ (w.z ≤ w.y) → (i : ℕ) → i < k → i * g ≡ suc s.d → ⊥
  no_copy (inr b) i l e =
      let c : k * g ≤ suc s.c * g = omega arith in
      let a : s.c < i = lt_of_mul-lt-mul_right g (omega arith) in
      let m : suc s.c * g ≤ i * g = mul-le-mul_right g (omega arith) in
      omega (arith, mul_less i k g p l)
  no_copy (inl n) i l e =
      let a : s.c < i = lt_of_mul-lt-mul_right g (omega arith) in
      let m : suc s.c * g ≤ i * g = mul-le-mul_right g (omega arith) in
      ⊎_elim (λ (q : suc s.d ≤ suc s.c * g). n (omega arith)) (λ (q : suc s.c ≡ k). omega arith) s.ahead

  still : (length h ≡ w.y → ⊥) ⊎ (w.z ≤ w.y) → copied k g 0 (absent ∷ h) ≡ absent
  still n = copied_none k g 0 (absent ∷ h) (λ i l. ap (back (absent ∷ h)) (zero-add (i * g)) ∙ quiet_now i l (no_copy n i l))

  again : length h ≡ w.y → w.y < w.z → copied k g 0 (absent ∷ h) ≡ present w.x
  again e b =
      let f : suc s.c < k = lt_of_mul-lt-mul_right g (omega arith) in
      let o : suc s.c * g ≡ suc s.d = omega arith in
      copied_at k g 0 (suc s.c) w.x (absent ∷ h) f (ap (back (absent ∷ h)) (let z : 0 + suc s.c * g ≡ suc s.d = omega arith in z) ∙ s.there)
      (λ m l. ap (back (absent ∷ h)) (zero-add (m * g)) ∙ quiet_now m (omega arith) (λ z. let q : m * g < suc s.c * g = mul_less m (suc s.c) g p l in omega arith))

  ahead_still : (length h ≡ w.y → ⊥) ⊎ (w.z ≤ w.y) → suc s.d ≤ suc s.c * g → (suc (suc s.d) ≤ suc s.c * g) ⊎ (suc s.c ≡ k)
  ahead_still (inl m) a = inl (below (try (eqb (suc s.d) (suc s.c * g))))
    where
      below : Tried (eqb (suc s.d) (suc s.c * g)) → suc (suc s.d) ≤ suc s.c * g
      below (passed e) = absurd (m (omega (arith, eqb-true (suc s.d) (suc s.c * g) e)))
      below (failed e) = let q : suc s.d ≡ suc s.c * g → ⊥ = eqb-false (suc s.d) (suc s.c * g) e in omega arith
  ahead_still (inr b) a = inr (top (try (ltb (suc s.c) k)))
    where
      top : Tried (ltb (suc s.c) k) → suc s.c ≡ k
      top (passed e) = absurd (omega (arith, mul_less (suc s.c) k g p (ltb-true (suc s.c) k e)))
      top (failed e) = omega (arith, ltb-false (suc s.c) k e)

  quiet_on : (j : ℕ) → j < suc s.d + k * g → (j ≡ suc s.d → ⊥) → back (absent ∷ h) j ≡ absent
  quiet_on zero l q = refl
  quiet_on (suc j) l q = s.quiet j (omega arith) (λ e. q (omega arith))

  -- the words after a tick without a presence, where no copy was due
  passes : (length h ≡ w.y → ⊥) ⊎ (w.z ≤ w.y) → Copying k g (absent ∷ h) w
  unfolding latest
  passes n =
      record {
        tick = s.tick;
        d = suc s.d;
        c = s.c;
        at = omega (arith, s.at);
        last = s.last;
        there = s.there;
        quiet = quiet_on;
        due = s.due;
        next = s.next;
        few = s.few;
        passed = omega (arith, s.passed);
        ahead = ⊎_elim (λ (q : suc s.d ≤ suc s.c * g). ahead_still n q) (λ (q : suc s.c ≡ k). inr q) s.ahead;
      }

  -- and where one was
  advances : length h ≡ w.y → w.y < w.z → Copying k g (absent ∷ h) (record w { y = length h + g })
  unfolding latest
  advances e b =
      let f : suc s.c < k = lt_of_mul-lt-mul_right g (omega arith) in
      record {
        tick = s.tick;
        d = suc s.d;
        c = suc s.c;
        at = omega (arith, s.at);
        last = s.last;
        there = s.there;
        quiet = quiet_on;
        due = s.due;
        next = omega (arith, suc-mul (suc s.c) g);
        few = f;
        passed = omega arith;
        ahead = inl (omega (arith, suc-mul (suc s.c) g));
      }

  -- the next presence is due k × g ticks after
  due_is : eqb (length h) w.z ≡ eqb (length h - s.tick) (k * g)
  due_is =
      same_test (eqb (length h) w.z) (eqb (length h - s.tick) (k * g))
      (λ e. eq-eqb (length h - s.tick) (k * g) (omega (arith, eqb-true (length h) w.z e)))
      (λ e. eq-eqb (length h) w.z (omega (arith, eqb-true (length h - s.tick) (k * g) e)))

-- the words after a presence
begins : (k g v : ℕ) (h : History) (w : Held) → 1 ≤ k → 1 ≤ g → ((j : ℕ) → suc j < k * g → back h j ≡ absent) → Copying k g (present v ∷ h) (begun (length h) v k g w)
unfolding latest
begins k g v h w p q n =
    record {
      tick = length h;
      d = 0;
      c = 0;
      at = omega arith;
      last = refl;
      there = refl;
      quiet = quiet;
      due = refl;
      next = let z : suc 0 * g ≡ g = one-mul g in omega arith;
      few = p;
      passed = let z : zero * g ≡ 0 = zero-mul g in omega arith;
      ahead = inl (let z : suc 0 * g ≡ g = one-mul g in omega arith);
    }
  where
    quiet : (j : ℕ) → j < 0 + k * g → (j ≡ 0 → ⊥) → back (present v ∷ h) j ≡ absent
    quiet zero l z = absurd (z refl)
    quiet (suc j) l z = n j (omega arith)

copied_here : (k g v : ℕ) (h : History) → 1 ≤ k → copied k g 0 (present v ∷ h) ≡ present v
unfolding copied
copied_here zero g v h p = absurd (omega arith)
copied_here (suc k) g v h p = refl

both : (b : Bool) (x : Step) → cond b x x ≡ x
both true x = refl
both false x = refl

pub never_is : {A : Type 0} {c : Cell} → clashes ≡ is c → A
never_is e = absurd (let z : ◌≡◌ {A = ℕ} 0 1 = cc in omega arith)

module _ (k g : ℕ) (p : 1 ≤ k) (q : 1 ≤ g) (h : History) (w : Held) where
  -- whether the next copy is due
  due_now : Copying k g h w → Tried (eqb (length h) w.y) → Tried (ltb w.y w.z) → faster_step (length h) absent w ≡ is (copied k g 0 (absent ∷ h))
  due_now s (failed e) t = rw (e) (ap is (sym (still k g h w q s (inl (eqb-false (length h) w.y e)))))
  due_now s (passed e) (failed f) = rw (e, f) (ap is (sym (still k g h w q s (inr (ltb-false w.y w.z f)))))
  due_now s (passed e) (passed f) = rw (e, f) (ap is (sym (again k g h w q s (eqb-true (length h) w.y e) (ltb-true w.y w.z f))))

  not_zero : Copying k g h w → eqb w.z 0 ≡ false
  not_zero s = ne_eqb w.z 0 (λ e. let m : 1 * 1 ≤ k * g = mul-le-mul p q in omega (arith, s.due))

  -- what the words say is what the history says
  pub faster_steps : (a : Cell) → Copies k g h w → faster_step (length h) a w ≡ faster_of k g a h
  unfolding faster_of
  faster_steps absent (unseen n l z) =
      rw (le-ltb w.y w.z (omega arith)) (both (eqb (length h) w.y) (is absent) ∙ ap is (sym (copied_none k g 0 (absent ∷ h) (λ i b. empty (0 + i * g)))))
    where
      empty : (j : ℕ) → back (absent ∷ h) j ≡ absent
      empty zero = refl
      empty (suc j) = n j
  faster_steps absent (copying s) = due_now s (try (eqb (length h) w.y)) (try (ltb w.y w.z))
  faster_steps (present v) (unseen n l z) = rw (eq-eqb w.z 0 z, l) (ap is (sym (copied_here k g v h p)))
  faster_steps (present v) (copying s) =
      rw (not_zero s, due_is k g h w q s, s.last, copied_here k g v h p) (which (eqb (length h - s.tick) (k * g)))
    where
      which : (b : Bool) → cond b (is (present v)) clashes ≡ clash_unless b (present v)
      which true = refl
      which false = refl

  -- and so it is after the tick, unless that clashes
  moves : Copying k g h w → Tried (eqb (length h) w.y) → Tried (ltb w.y w.z) → Copying k g (absent ∷ h) (faster_next (length h) absent k g w)
  moves s (failed e) t = rw (e) (passes k g h w q s (inl (eqb-false (length h) w.y e)))
  moves s (passed e) (failed f) = rw (e, f) (passes k g h w q s (inr (ltb-false w.y w.z f)))
  moves s (passed e) (passed f) = rw (e, f) (advances k g h w q s (eqb-true (length h) w.y e) (ltb-true w.y w.z f))

  follows :
      (v : ℕ) (c : Cell) (s : Copying k g h w) → Tried (eqb (length h) w.z) → cond (eqb (length h) w.z) (is (present v)) clashes ≡ is c
      → Copying k g (present v ∷ h) (faster_next (length h) (present v) k g w)
  follows v c s (failed e) y = never_is (rw (e) at y)
  follows v c s (passed e) y =
      rw (not_zero s, e) (begins k g v h w p q
      (λ j l. s.quiet j (omega (arith, eqb-true (length h) w.z e, s.at, s.due)) (λ z. omega (arith, eqb-true (length h) w.z e, s.at, s.due))))

  pub faster_follows : (a c : Cell) → Copies k g h w → faster_step (length h) a w ≡ is c → Copies k g (a ∷ h) (faster_next (length h) a k g w)
  unfolding latest
  faster_follows absent c (unseen n l z) y = rw (le-ltb w.y w.z (omega arith)) (same (eqb (length h) w.y))
    where
      empty : (j : ℕ) → back (absent ∷ h) j ≡ absent
      empty zero = refl
      empty (suc j) = n j

      same : (b : Bool) → Copies k g (absent ∷ h) (cond b w w)
      same true = unseen empty l z
      same false = unseen empty l z
  faster_follows absent c (copying s) y = copying (moves s (try (eqb (length h) w.y)) (try (ltb w.y w.z)))
  faster_follows (present v) c (unseen n l z) y = rw (eq-eqb w.z 0 z) (copying (begins k g v h w p q (λ j b. n j)))
  faster_follows (present v) c (copying s) y = copying (follows v c s (try (eqb (length h) w.z)) (rw (not_zero s) at y))

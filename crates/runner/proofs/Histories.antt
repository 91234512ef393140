-- The other rows that carry words: what the words say is what the history says, at the tick and after it. Assumes nothing.
use Rattle.std.proofs.Common.{◌≡◌, ℕ, suc, ◌+◌, ◌-◌, ◌%◌, ◌<◌, ◌≤◌, Bool, true, false, cond, not, ◌&&◌, ◌||◌, eqb, ltb, leb, ◌∷◌, length, sym, refl}
use Rattle.std.proofs.Common.{ap, ◌∙◌, subst, mod-eq_of_lt, zero-add, arith, le-ltb, lt-ltb, eq-eqb, ne_eqb, eqb-true, le-leb, leb-false, leb-true}
use native.Mathlib.Nat.{mod-add-mod, add-mod_right, sub_self, zero-mod}
use borrow.Author.Tests.{lt-leb, eqb-false}
use Rattle.table.proofs.Tests.{Tried, passed, failed, try, same_test, and_left, and_right, and_both}
use Rattle.semantics.specs.Cells.{Cell, absent, present, History, count, latest, on_grid}
use Rattle.semantics.specs.Operators.{is, clashes, clash_unless, timed, slower_of, tail_of, evenly, head_fits, head_of}
use Rattle.runner.specs.declared.carried.Held.{Held}
use Rattle.runner.specs.Private.Carried.{timed_step, timed_next, slower_step, slower_next, head_step, head_next, after_step, after_next, tail_step, tail_next}
use Rattle.runner.specs.Private.Ready.{Due, Heads, never, once, often}
use Rattle.runner.proofs.Copies.{never_is}

-- a multiple of n and less than n more
beyond : (a i n : ℕ) → a % n ≡ 0 → i < n → (a + i) % n ≡ i
beyond a i n z l = sym (mod-add-mod a n i) ∙ ap (λ (m : ℕ). (m + i) % n) z ∙ ap (λ (m : ℕ). m % n) (zero-add i) ∙ mod-eq_of_lt l

-- a test that chooses between cells
either : (b : Bool) (c : Cell) → cond b c c ≡ c
either true c = refl
either false c = refl

is_either : (b : Bool) (c d : Cell) → cond b (is c) (is d) ≡ is (cond b c d)
is_either true c d = refl
is_either false c d = refl

-- Input, constant.
module _ (n p t : ℕ) (w : Held) (d : Due n p t w.x) where
  pub timed_steps : (v : ℕ) → timed_step t v w ≡ is (timed n p t v)
  timed_steps v = go (try (eqb t w.x))
    where
      go : Tried (eqb t w.x) → timed_step t v w ≡ is (timed n p t v)
      go (passed e) = rw (e, subst (λ (s : ℕ). on_grid n p s ≡ true) (sym (eqb-true t w.x e)) d.on)
      go (failed e) = let m : t ≡ w.x → ⊥ = eqb-false t w.x e in rw (e, d.off t (omega arith) (omega (arith, d.from)))

  -- the next tick on the grid is a period after this one
  grid_next : 1 ≤ n → on_grid n p t ≡ true → Due n p (suc t) (t + n)
  unfolding on_grid
  grid_next l g =
      let a : p ≤ t = leb-true p t (and_left (leb p t) _ g) in
      let z : (t - p) % n ≡ 0 = eqb-true _ _ (and_right (leb p t) _ g) in
      let m : t + n - p ≡ t - p + n = omega arith in
      record {
        from = omega arith;
        on = and_both (le-leb p (t + n) (omega arith)) (eq-eqb _ 0 (ap (λ (j : ℕ). j % n) m ∙ add-mod_right (t - p) n ∙ z));
        off = λ s b c. off s b c z a;
      }
    where
      off : (s : ℕ) → suc t ≤ s → s < t + n → (t - p) % n ≡ 0 → p ≤ t → (leb p s && eqb ((s - p) % n) 0) ≡ false
      off s b c z a =
          let m : s - p ≡ t - p + (s - t) = omega arith in
          let i : (s - p) % n ≡ s - t = ap (λ (j : ℕ). j % n) m ∙ beyond (t - p) (s - t) n z (omega arith) in
          rw (le-leb p s (omega arith), ne_eqb ((s - p) % n) 0 (λ e. omega arith))

  pub timed_follows : 1 ≤ n → Due n p (suc t) (timed_next t n w).x
  timed_follows l = go (try (eqb t w.x))
    where
      go : Tried (eqb t w.x) → Due n p (suc t) (timed_next t n w).x
      go (passed e) = rw (e) (grid_next l (subst (λ (s : ℕ). on_grid n p s ≡ true) (sym (eqb-true t w.x e)) d.on))
      go (failed e) =
          let m : t ≡ w.x → ⊥ = eqb-false t w.x e in
          rw (e) record { from = omega (arith, d.from); on = d.on; off = λ s b c. d.off s (omega arith) c }

pub timed_keeps : (t n : ℕ) (w : Held) → (timed_next t n w).y ≡ w.y
timed_keeps t n w = go (eqb t w.x)
  where
    go : (b : Bool) → (cond b (record w { x = t + n }) w).y ≡ w.y
    go true = refl
    go false = refl

-- the phase is the first tick on the grid
pub timed_starts : (n p : ℕ) → Due n p 0 p
unfolding on_grid
timed_starts n p =
    record {
      from = omega arith;
      on = and_both (le-leb p p (omega arith)) (eq-eqb ((p - p) % n) 0 (ap (λ (j : ℕ). j % n) (sub_self p) ∙ zero-mod n));
      off = λ s b c. rw (lt-leb p s c);
    }

-- Slower.
module _ (k : ℕ) (h : History) (w : Held) (s : ((count h + w.x) % k ≡ 0) × (w.x < k)) where
  left_out : eqb w.x 0 ≡ eqb (count h % k) 0
  left_out =
      same_test (eqb w.x 0) (eqb (count h % k) 0)
      (λ e. eq-eqb (count h % k) 0 (ap (λ (j : ℕ). j % k) (omega (arith, eqb-true w.x 0 e)) ∙ s.0))
      (λ e. eq-eqb w.x 0 (sym (beyond (count h) w.x k (eqb-true (count h % k) 0 e) s.1) ∙ s.0))

  pub slower_steps : (a : Cell) → slower_step a w ≡ is (slower_of k a h)
  unfolding slower_of
  slower_steps absent = ap is (sym (either (eqb (count h % k) 0) absent))
  slower_steps (present v) = rw (left_out) (is_either (eqb (count h % k) 0) (present v) absent)

  pub slower_follows : (a : Cell) → ((count (a ∷ h) + (slower_next a k w).x) % k ≡ 0) × ((slower_next a k w).x < k)
  unfolding count
  slower_follows absent = s
  slower_follows (present v) = go (try (eqb w.x 0))
    where
      go : Tried (eqb w.x 0) → ((suc (count h) + (slower_next (present v) k w).x) % k ≡ 0) × ((slower_next (present v) k w).x < k)
      go (passed e) =
          rw (e)
          (let m : suc (count h) + (k - 1) ≡ count h + w.x + k = omega (arith, s.1, eqb-true w.x 0 e) in
          (ap (λ (j : ℕ). j % k) m ∙ add-mod_right (count h + w.x) k ∙ s.0, omega (arith, s.1)))
      go (failed e) =
          rw (e)
          (let z : w.x ≡ 0 → ⊥ = eqb-false w.x 0 e in
          let m : suc (count h) + (w.x - 1) ≡ count h + w.x = omega arith in
          (ap (λ (j : ℕ). j % k) m ∙ s.0, omega (arith, s.1)))

-- Tail.
module _ (h : History) (w : Held) (s : eqb w.x 0 ≡ eqb (count h) 0) where
  pub tail_steps : (a : Cell) → tail_step a w ≡ is (tail_of a h)
  unfolding tail_of
  tail_steps absent = ap is (sym (either (eqb (count h) 0) absent))
  tail_steps (present v) = rw (s) (is_either (eqb (count h) 0) absent (present v))

  pub tail_follows : (a : Cell) → eqb (tail_next a w).x 0 ≡ eqb (count (a ∷ h)) 0
  unfolding count
  tail_follows absent = s
  tail_follows (present v) = go (try (eqb w.x 0))
    where
      go : Tried (eqb w.x 0) → eqb (tail_next (present v) w).x 0 ≡ eqb (suc (count h)) 0
      go (passed e) = rw (e) (sym (ne_eqb (suc (count h)) 0 (λ q. omega arith)))
      go (failed e) = rw (e) (e ∙ sym (ne_eqb (suc (count h)) 0 (λ q. omega arith)))

-- Head.
module _ (v s : ℕ) (h : History) (w : Held) where
  which : (b : Bool) (x : ℕ) → cond b (is (present x)) clashes ≡ clash_unless b (present x)
  which true x = refl
  which false x = refl

  after_steps : (x : ℕ) → Heads s h w.x → after_step (length h) x w ≡ clash_unless (not (eqb (count h) 1) || evenly s (length h) (latest h)) (present x)
  after_steps x (never n z) = rw (eq-eqb w.x 0 z, n)
  after_steps x (often n z) = rw (ne_eqb w.x 0 (λ e. omega arith), eq-eqb w.x 1 z, ne_eqb (count h) 1 (λ e. omega arith))
  after_steps x (once e u n l a b z) =
      rw (ne_eqb w.x 0 (λ q. omega arith), ne_eqb w.x 1 (λ q. omega arith), eq-eqb (count h) 1 n, l, even) (which (eqb (e - s) (length h - e)) x)
    where
      even : eqb (length h) w.x ≡ eqb (e - s) (length h - e)
      even =
          same_test (eqb (length h) w.x) (eqb (e - s) (length h - e))
          (λ q. eq-eqb (e - s) (length h - e) (omega (arith, eqb-true (length h) w.x q)))
          (λ q. eq-eqb (length h) w.x (omega (arith, eqb-true (e - s) (length h - e) q)))

  pub head_steps : (a : Cell) → Heads s h w.x → head_step (length h) a v s w ≡ head_of v s a h
  unfolding head_of head_fits
  head_steps absent c = is_either (eqb (length h) s) (present v) absent
  head_steps (present x) c = go (try (leb (length h) s))
    where
      go :
          Tried (leb (length h) s) → head_step (length h) (present x) v s w
          ≡ clash_unless (ltb s (length h) && (not (eqb (count h) 1) || evenly s (length h) (latest h))) (present x)
      go (passed e) = rw (e, le-ltb s (length h) (leb-true (length h) s e))
      go (failed e) = rw (e, lt-ltb s (length h) (leb-false (length h) s e)) (after_steps x c)

  after_follows : (x : ℕ) (c : Cell) → s < length h → Heads s h w.x → after_step (length h) x w ≡ is c → Heads s (present x ∷ h) (after_next (length h) s w).x
  unfolding count latest
  after_follows x c l (never n z) y = rw (eq-eqb w.x 0 z) (once (length h) x (ap suc n) refl l (omega arith) refl)
  after_follows x c l (often n z) y = rw (ne_eqb w.x 0 (λ e. omega arith), eq-eqb w.x 1 z) (often (omega arith) z)
  after_follows x c l (once e u n m a b z) y =
      go (ne_eqb w.x 0 (λ q. omega arith)) (ne_eqb w.x 1 (λ q. omega arith)) (try (eqb (length h) w.x))
    where
      go : eqb w.x 0 ≡ false → eqb w.x 1 ≡ false → Tried (eqb (length h) w.x) → Heads s (present x ∷ h) (after_next (length h) s w).x
      go p q (passed t) = rw (p, q, t) (often (omega arith) refl)
      go p q (failed t) = never_is (rw (p, q, t) at y)

  pub head_follows : (a c : Cell) → Heads s h w.x → head_step (length h) a v s w ≡ is c → Heads s (a ∷ h) (head_next (length h) a s w).x
  unfolding count latest
  head_follows absent c (never n z) y = never n z
  head_follows absent c (often n z) y = often n z
  head_follows absent c (once e u n m a b z) y = once e u n m a (omega arith) z
  head_follows (present x) c d y = go (try (leb (length h) s))
    where
      go : Tried (leb (length h) s) → Heads s (present x ∷ h) (head_next (length h) (present x) s w).x
      go (passed e) = never_is (rw (e) at y)
      go (failed e) = rw (e) (after_follows x c (leb-false (length h) s e) d (rw (e) at y))

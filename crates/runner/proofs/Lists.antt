-- The list of the rows whose kinds pass a test, row after row. Assumes nothing.
use Rattle.std.proofs.Common.{◌≡◌, ℕ, zero, suc, ◌+◌, ◌*◌, ◌<◌, ◌≤◌, Bool, true, false, cond, List, [], ◌∷◌, ◌++◌, length, get_or, take, set, sym, refl, ap, ◌∙◌, subst, ⊎_elim}
use Rattle.std.proofs.Common.{true≢false, eq-or-lt_of_le, add-one, arith, append-nil, length-append}
use Rattle.std.proofs.Math.ListN.{get_or-append}
use Rattle.std.proofs.Math.Seq.{get_or-append_seam}
use Rattle.std.proofs.lemmas.List.{take_more_set}
use Rattle.runner.specs.Private.Ready.{numbers}
use Rattle.table.specs.Rows.{row_size}

-- what such a list is
pub record Listed (test : ℕ → Bool) (n : ℕ) (words list : List ℕ) : Type 0 where
  pub within : (j : ℕ) → j < length list → get_or list j 0 < n
  pub kind : (j : ℕ) → j < length list → test (get_or words (row_size * get_or list j 0) 0) ≡ true
  pub rising : (i j : ℕ) → i < j → j < length list → get_or list i 0 < get_or list j 0
  pub all : (f : ℕ) → f < n → test (get_or words (row_size * f) 0) ≡ true → (j : ℕ) × (j < length list) × (get_or list j 0 ≡ f)

module _ (test : ℕ → Bool) (f : ℕ) (words list : List ℕ) (L : Listed test f words list) where
  skips : (test (get_or words (row_size * f) 0) ≡ true → ⊥) → Listed test (f + 1) words list
  skips n =
      record {
        within = λ j l. omega (arith, L.within j l);
        kind = L.kind;
        rising = L.rising;
        all =
            λ g l e. ⊎_elim (λ (u : g ≡ f). absurd (n (ap (λ (i : ℕ). test (get_or words (row_size * i) 0)) (sym u) ∙ e))) (λ (u : g < f). L.all g u e)
            (eq-or-lt_of_le {n = g} {m = f} (omega arith));
      }

  takes : test (get_or words (row_size * f) 0) ≡ true → Listed test (f + 1) words (list ++ (f ∷ []))
  takes e =
      record {
        within = by (λ i. i < f + 1) (omega arith) (λ j u. omega (arith, L.within j u));
        kind = by (λ i. test (get_or words (row_size * i) 0) ≡ true) e L.kind;
        rising =
            λ i j l m. ⊎_elim
            (λ (u : j ≡ length list).
            let v : get_or (list ++ (f ∷ [])) j 0 ≡ f = ap (λ (k : ℕ). get_or (list ++ (f ∷ [])) k 0) u ∙ here in omega (arith, v, there i (omega arith), L.within i (omega arith)))
            (λ (u : j < length list). omega (arith, there i (omega arith), there j u, L.rising i j l u))
            (eq-or-lt_of_le {n = j} {m = length list} (omega (arith, longer)));
        all =
            λ g l q. ⊎_elim (λ (u : g ≡ f). (length list, omega (arith, longer), here ∙ sym u)) (λ (u : g < f). old g (L.all g u q))
            (eq-or-lt_of_le {n = g} {m = f} (omega arith));
      }
    where
      longer : length (list ++ (f ∷ [])) ≡ length list + 1
      longer = length-append list (f ∷ [])

      here : get_or (list ++ (f ∷ [])) (length list) 0 ≡ f
      here = get_or-append_seam list f [] 0

      there : (j : ℕ) → j < length list → get_or (list ++ (f ∷ [])) j 0 ≡ get_or list j 0
      there j l = get_or-append list (f ∷ []) 0 j l

      by : (P : ℕ → Type 0) → P f → ((j : ℕ) → j < length list → P (get_or list j 0)) → (j : ℕ) → j < length (list ++ (f ∷ [])) → P (get_or (list ++ (f ∷ [])) j 0)
      by P p q j l =
          ⊎_elim (λ (u : j ≡ length list). subst (λ (i : ℕ). P (get_or (list ++ (f ∷ [])) i 0)) (sym u) (subst P (sym here) p))
          (λ (u : j < length list). subst P (sym (there j u)) (q j u)) (eq-or-lt_of_le {n = j} {m = length list} (omega (arith, longer)))

      old : (g : ℕ) → (j : ℕ) × (j < length list) × (get_or list j 0 ≡ g) → (j : ℕ) × (j < length (list ++ (f ∷ []))) × (get_or (list ++ (f ∷ [])) j 0 ≡ g)
      old g p = (p.0, omega (arith, p.1, longer), there p.0 p.1 ∙ p.2)

pub listed : (test : ℕ → Bool) (n : ℕ) (words : List ℕ) → Listed test n words (numbers test n words)
unfolding numbers
listed test zero words =
    record {
      within = λ j l. absurd (omega arith);
      kind = λ j l. absurd (omega arith);
      rising = λ i j l m. absurd (omega arith);
      all = λ f l. absurd (omega arith);
    }
listed test (suc n) words = rw (← add-one n) (go (listed test n words) (test (get_or words (row_size * n) 0)) refl)
  where
    go : Listed test n words (numbers test n words) → (b : Bool) → test (get_or words (row_size * n) 0) ≡ b
        → Listed test (n + 1) words (numbers test n words ++ cond b (n ∷ []) [])
    go L true e = takes test n words (numbers test n words) L e
    go L false e = rw (append-nil (numbers test n words)) (skips test n words (numbers test n words) L (λ y. true≢false (sym y ∙ e)))

-- one row more, at the front of a list that has room
pub listed_more :
    (test : ℕ → Bool) (f : ℕ) (words list list' : List ℕ) (c c' : ℕ) → c < length list → take c list ≡ numbers test f words
    → list' ≡ cond (test (get_or words (row_size * f) 0)) (set list c f) list
    → c' ≡ cond (test (get_or words (row_size * f) 0)) (c + 1) c → (take c' list' ≡ numbers test (f + 1) words) × (c' ≤ c + 1)
unfolding numbers
listed_more test f words list list' c c' room L p q = rw (add-one f) (go (test (get_or words (row_size * f) 0)) p q)
  where
    go :
        (b : Bool) → list' ≡ cond b (set list c f) list → c' ≡ cond b (c + 1) c → (take c' list' ≡ numbers test f words ++ cond b (f ∷ []) []) × (c' ≤ c + 1)
    go true p q = (rw (p, q, take_more_set list c f room) (ap (λ (l : List ℕ). l ++ (f ∷ [])) L), omega arith)
    go false p q = (rw (p, q, append-nil (numbers test f words)) L, omega arith)

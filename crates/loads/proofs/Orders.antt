-- The sorted lines are in order, and no other list of the same lines is. Assumes nothing.
use mathlib.Core.Path.{◌≡◌, refl, sym, ◌∙◌, ap, ap₂, subst}
use Prim.Native.Nat.{ℕ, zero, suc, ◌+◌, ◌%◌, ◌≤◌, ◌<◌}
use native.Mathlib.Omega.{arith}
use mathlib.Core.Bool.{Bool, true, false, cond}
use mathlib.Core.List.{List, [], ◌∷◌}
use lib.ListN.{length}
use lib.Dec.{ltb}
use borrow.Author.Tests.{ltb-true, ltb-false}
use Rattle.std.specs.List.{sum_by}
use Rattle.std.proofs.lemmas.List.Recursion.{is_sum_by}
use Rattle.std.proofs.lemmas.List.Sums.{sum_by-cons}
use Rattle.table.specs.Rows.{max_flows}
use Rattle.loads.specs.Loads.{Line, load, lines_from, Before, key, insert, sorted, Among, here, there, Standing, Ordered, total}
use Rattle.loads.proofs.Lines.{Bounded}
use Rattle.loads.proofs.Keys.{not_both, key_flow, before}

nowhere : {l : Line} {A : Type 0} → Among l [] → A
nowhere = elim [ ]

-- ---- a line more

module _ (l h : Line) (ls : List Line) (x : Line) where
  past_second : Among x (l ∷ ls) → Among x (l ∷ h ∷ ls)
  past_second (here e) = here e
  past_second (there i) = there (there i)

insert_only : (l : Line) (ls : List Line) (x : Line) → Among x (insert l ls) → Among x (l ∷ ls)
unfolding insert
insert_only l [] x i = i
insert_only l (h ∷ ls) x i = go (ltb (key l) (key h)) i (insert_only l ls x)
  where
    go : (b : Bool) → Among x (cond b (l ∷ h ∷ ls) (h ∷ insert l ls)) → (Among x (insert l ls) → Among x (l ∷ ls)) → Among x (l ∷ h ∷ ls)
    go true i r = i
    go false (here e) r = there (here e)
    go false (there j) r = past_second l h ls x (r j)

insert_first : (l : Line) (ls : List Line) (x : Line) → x ≡ l → Among x (insert l ls)
unfolding insert
insert_first l [] x e = here e
insert_first l (h ∷ ls) x e = go (ltb (key l) (key h)) (insert_first l ls x e)
  where
    go : (b : Bool) → Among x (insert l ls) → Among x (cond b (l ∷ h ∷ ls) (h ∷ insert l ls))
    go true r = here e
    go false r = there r

insert_same : (l : Line) (ls : List Line) (x : Line) → Among x ls → Among x (insert l ls)
unfolding insert
insert_same l [] x i = nowhere i
insert_same l (h ∷ ls) x i = go (ltb (key l) (key h)) i (insert_same l ls x)
  where
    go : (b : Bool) → Among x (h ∷ ls) → (Among x ls → Among x (insert l ls)) → Among x (cond b (l ∷ h ∷ ls) (h ∷ insert l ls))
    go true i r = there i
    go false (here e) r = here e
    go false (there j) r = there (r j)

insert_length : (l : Line) (ls : List Line) → length (insert l ls) ≡ suc (length ls)
unfolding insert
insert_length l [] = refl
insert_length l (h ∷ ls) = go (ltb (key l) (key h)) (insert_length l ls)
  where
    go : (b : Bool) → length (insert l ls) ≡ suc (length ls) → length (cond b (l ∷ h ∷ ls) (h ∷ insert l ls)) ≡ suc (suc (length ls))
    go true r = refl
    go false r = ap suc r

-- each key is above the one before it, the first at least a number
abbrev pub Ascending : ℕ → List Line → Type 0
Ascending from [] = Unit {0}
Ascending from (l ∷ ls) = (from ≤ key l) × Ascending (suc (key l)) ls

-- no line of a list has the key of l
abbrev Apart : Line → List Line → Type 0
Apart l ls = (x : Line) → Among x ls → key x ≡ key l → ⊥

insert_ascending : (from : ℕ) (l : Line) (ls : List Line) → Ascending from ls → from ≤ key l → Apart l ls → Ascending from (insert l ls)
unfolding insert
insert_ascending from l [] a h d = (h, tt)
insert_ascending from l (g ∷ ls) a h d = go (ltb (key l) (key g)) refl (insert_ascending (suc (key g)) l ls)
  where
    go : (b : Bool) → ltb (key l) (key g) ≡ b → (Ascending (suc (key g)) ls → suc (key g) ≤ key l → Apart l ls → Ascending (suc (key g)) (insert l ls))
        → Ascending from (cond b (l ∷ g ∷ ls) (g ∷ insert l ls))
    go true e r = (h, (ltb-true (key l) (key g) e, a.1))
    go false e r =
        let n : key g ≡ key l → ⊥ = d g (here refl) in
        (a.0, r a.1 (omega (arith, ltb-false (key l) (key g) e)) (λ x i. d x (there i)))

-- ---- all lines

-- no two lines have one key
abbrev Distinct : List Line → Type 0
Distinct [] = Unit {0}
Distinct (l ∷ ls) = Apart l ls × Distinct ls

pub sorted_size : (ls : List Line) → length (sorted ls) ≡ length ls
unfolding sorted
sorted_size [] = refl
sorted_size (l ∷ ls) = insert_length l (sorted ls) ∙ ap suc (sorted_size ls)

module _ (x : Line) where
  pub sorted_same : (ls : List Line) → Among x ls → Among x (sorted ls)
  unfolding sorted
  sorted_same [] i = i
  sorted_same (l ∷ ls) (here e) = insert_first l (sorted ls) x e
  sorted_same (l ∷ ls) (there i) = insert_same l (sorted ls) x (sorted_same ls i)

  pub sorted_only : (ls : List Line) → Among x (sorted ls) → Among x ls
  unfolding sorted
  sorted_only [] i = i
  sorted_only (l ∷ ls) i = go (insert_only l (sorted ls) x i) (sorted_only ls)
    where
      go : Among x (l ∷ sorted ls) → (Among x (sorted ls) → Among x ls) → Among x (l ∷ ls)
      go (here e) r = here e
      go (there j) r = there (r j)

sorted_ascending : (ls : List Line) → Distinct ls → Ascending 0 (sorted ls)
unfolding sorted
sorted_ascending [] d = tt
sorted_ascending (l ∷ ls) d =
    insert_ascending 0 l (sorted ls) (sorted_ascending ls d.1) (omega arith) (λ x i. d.0 x (sorted_only x ls i))

-- ---- sums over lines

module _ (g : Line → ℕ) where
  insert_sum : (l : Line) (ls : List Line) → sum_by g (insert l ls) ≡ sum_by g (l ∷ ls)
  unfolding insert
  insert_sum l [] = refl
  insert_sum l (h ∷ ls) = go (ltb (key l) (key h)) (insert_sum l ls)
    where
      go : (b : Bool) → sum_by g (insert l ls) ≡ sum_by g (l ∷ ls) → sum_by g (cond b (l ∷ h ∷ ls) (h ∷ insert l ls)) ≡ sum_by g (l ∷ h ∷ ls)
      go true r = refl
      go false r = omega (arith, r, sum_by-cons g h (insert l ls), sum_by-cons g l ls, sum_by-cons g l (h ∷ ls), sum_by-cons g h ls)

  pub sorted_sum : (ls : List Line) → sum_by g (sorted ls) ≡ sum_by g ls
  unfolding sorted
  sorted_sum [] = refl
  sorted_sum (l ∷ ls) = omega (arith, insert_sum l (sorted ls), sum_by-cons g l (sorted ls), sum_by-cons g l ls, sorted_sum ls)

loads : (ls : List Line) → total ls ≡ sum_by load ls
unfolding total
loads = is_sum_by total load refl (λ l ls. refl)

pub sorted_total : (ls : List Line) → total (sorted ls) ≡ total ls
sorted_total ls = loads (sorted ls) ∙ sorted_sum load ls ∙ sym (loads ls)

-- ---- the lines of the flows

module _ (line : ℕ → Line) where
  pub lines_length : (n f : ℕ) → length (lines_from line n f) ≡ n
  unfolding lines_from
  lines_length zero f = refl
  lines_length (suc n) f = ap suc (lines_length n (suc f))

  pub of_lines : (n f : ℕ) (l : Line) → Among l (lines_from line n f) → (g : ℕ) × (f ≤ g) × (g < f + n) × (l ≡ line g)
  unfolding lines_from
  of_lines zero f l i = nowhere i
  of_lines (suc n) f l i = go i (of_lines n (suc f) l)
    where
      go : Among l (line f ∷ lines_from line n (suc f)) → (Among l (lines_from line n (suc f)) → (g : ℕ) × (suc f ≤ g) × (g < suc f + n) × (l ≡ line g))
          → (g : ℕ) × (f ≤ g) × (g < f + suc n) × (l ≡ line g)
      go (here e) r = (f, omega arith, omega arith, e)
      go (there j) r = let x = r j in (x.0, omega (arith, x.1), omega (arith, x.2), x.3)

  -- each of them is there
  pub in_lines : (n f g : ℕ) → f ≤ g → g < f + n → Among (line g) (lines_from line n f)
  unfolding lines_from
  in_lines zero f g p q = absurd (omega arith)
  in_lines (suc n) f g p q = go (ltb f g) refl (in_lines n (suc f) g)
    where
      go : (b : Bool) → ltb f g ≡ b → (suc f ≤ g → g < suc f + n → Among (line g) (lines_from line n (suc f)))
          → Among (line g) (line f ∷ lines_from line n (suc f))
      go true e r = there (r (ltb-true f g e) (omega arith))
      go false e r = let x : g ≡ f = omega (arith, ltb-false f g e) in here (ap line x)

  -- flows have their own numbers, below the most
  module _ (own : (g : ℕ) → (line g).flow ≡ g) where
    distinct : (n f : ℕ) → f + n ≤ max_flows → Distinct (lines_from line n f)
    unfolding lines_from
    distinct zero f h = tt
    distinct (suc n) f h = (apart, distinct n (suc f) (omega arith))
      where
        flow_of : (g : ℕ) → g < max_flows → key (line g) % max_flows ≡ g
        flow_of g l = key_flow (line g) (omega (arith, own g)) ∙ own g

        apart : Apart (line f) (lines_from line n (suc f))
        apart x i e =
            let o = of_lines n (suc f) x i in
            let k : key (line o.0) ≡ key (line f) = ap key (sym o.3) ∙ e in
            let y : o.0 ≡ f = sym (flow_of o.0 (omega (arith, o.2))) ∙ ap (λ (z : ℕ). z % max_flows) k ∙ flow_of f (omega arith) in
            omega (arith, o.1)

    pub lines_ascending : (n : ℕ) → n ≤ max_flows → Ascending 0 (sorted (lines_from line n 0))
    lines_ascending n h = sorted_ascending (lines_from line n 0) (distinct n 0 (omega arith))

-- ---- by ascending key, each line before all that follow it

pub ascending_above : (from : ℕ) (ls : List Line) (x : Line) → Ascending from ls → Among x ls → from ≤ key x
ascending_above from [] x a i = nowhere i
ascending_above from (l ∷ ls) x a (here e) = omega (arith, a.0, ap key e)
ascending_above from (l ∷ ls) x a (there i) = omega (arith, a.0, ascending_above (suc (key l)) ls x a.1 i)

pub standing : (from : ℕ) (ls : List Line) → Ascending from ls → ((l : Line) → Among l ls → Bounded l) → Standing ls
standing from [] a b = tt
standing from (l ∷ ls) a b =
    (λ x i. before l x (b l (here refl)) (b x (there i)) (ascending_above (suc (key l)) ls x a.1 i), standing (suc (key l)) ls a.1 (λ x i. b x (there i)))

-- ---- one order

module _ (x y : Line) (xs ys : List Line) (a : Standing (x ∷ xs)) (b : Standing (y ∷ ys)) where
  first_same : Among x (y ∷ ys) → Among y (x ∷ xs) → x ≡ y
  first_same (here e) j = e
  first_same (there i) (here e) = sym e
  first_same (there i) (there j) = absurd (not_both (a.0 y j) (b.0 x i))

  rest_same : x ≡ y → (z : Line) → Among z xs → Among z (y ∷ ys) → Among z ys
  rest_same e z i (here q) = let h : Before x x = subst (Before x) (q ∙ sym e) (a.0 z i) in absurd (not_both h h)
  rest_same e z i (there j) = j

one_list : (xs ys : List Line) → Standing xs → Standing ys → ((z : Line) → Among z xs → Among z ys) → ((z : Line) → Among z ys → Among z xs) → xs ≡ ys
one_list [] [] a b s o = refl
one_list [] (y ∷ ys) a b s o = nowhere (o y (here refl))
one_list (x ∷ xs) [] a b s o = nowhere (s x (here refl))
one_list (x ∷ xs) (y ∷ ys) a b s o =
    let e : x ≡ y = first_same x y xs ys a b (s x (here refl)) (o y (here refl)) in
    ap₂ ◌∷◌ e (one_list xs ys a.1 b.1
    (λ z i. rest_same x y xs ys a b e z i (s z (there i)))
    (λ z i. rest_same y x ys xs b a (sym e) z i (o z (there i))))

pub one_order : (ls ss ss' : List Line) → Ordered ls ss → Ordered ls ss' → ss ≡ ss'
one_order ls ss ss' p q =
    one_list ss ss' p.standing q.standing (λ z i. q.same z (p.only z i)) (λ z i. p.same z (q.only z i))

-- What the check has found, from what it comes to. Assumes nothing.
use mathlib.Core.Path.{◌≡◌, refl, sym, ◌∙◌, ap, subst}
use Prim.Native.Nat.{ℕ, suc, ◌+◌, ◌≤◌, ◌<◌}
use native.Mathlib.Nat.{mul-le-mul}
use native.Mathlib.Omega.{arith}
use mathlib.Core.Bool.{Bool, false}
use mathlib.Core.List.{List, [], ◌∷◌, ◌++◌}
use mathlib.Core.Option.{Option}
use lib.ListN.{length, length-append, get_or-append}
use lib.Seq.{get_or-append_seam}
use Rattle.table.specs.Tables.{Fits}
use Rattle.table.specs.declared.refusal.Refusal.{Refusal}
use Rattle.table.specs.declared.refusal.Refusal.TheVariants.{ClocksDiffer}
use Rattle.table.specs.Answers.{Result, good, refused, then}
use Rattle.table.specs.Rows.{Row, input, constant, combine, register, faster, slower, later, head, tail, sample, merge, unrated, view, on_register, bad_register}
use Rattle.table.proofs.Tests.{not_good, good_inj}
use Rattle.table.proofs.Lists.{Each, below_suc}
use Rattle.table.proofs.Registers.{Passes, Registers, all_pass, one_fails, registers}
use Rattle.table.proofs.Tables.{AllFit}
use Rattle.checker.specs.Clocks.{Condition, Clock, every, under}
use Rattle.checker.specs.Rules.{max_derived, max_conditions, clock_of, clock_at, clocks_from, sourced, source_fits, clocks_of, Every, Below, Direct, FirstViewed}
use Rattle.checker.proofs.ClockLaws.{plain_empty}
use Rattle.checker.proofs.RuleLaws.{Rule, by_input, by_constant, by_combine, by_register, by_faster, by_slower, by_later, by_head}
use Rattle.checker.proofs.RuleLaws.{by_tail, by_sample, by_merge, by_view, rule_of_lem, written_fits}

-- a rule reads the clocks of lower flows only
pub clock_local : (clk clk' : ℕ → Clock) (m f : ℕ) (r : Row) → Fits m f r → ((a : ℕ) → a < f → clk a ≡ clk' a) → clock_of clk f r ≡ clock_of clk' f r
unfolding clock_of
clock_local clk clk' m f (input n p) w s = refl
clock_local clk clk' m f (constant v n p) w s = refl
clock_local clk clk' m f (combine op a b) w s = rw (s a w.0, s b w.1)
clock_local clk clk' m f (register v b a) w s = rw (s b w.0)
clock_local clk clk' m f (faster a k g) w s = rw (s a w.0)
clock_local clk clk' m f (slower a k) w s = rw (s a w.0)
clock_local clk clk' m f (later a d) w s = rw (s a w.0)
clock_local clk clk' m f (head a v t) w s = rw (s a w.0)
clock_local clk clk' m f (tail a) w s = rw (s a w.0)
clock_local clk clk' m f (sample u a c) w s = rw (s a w.0, s c w.1)
clock_local clk clk' m f (merge c a b) w s = rw (s c w.0, s a w.1, s b w.2)
clock_local clk clk' m f unrated w s = refl
clock_local clk clk' m f (view u a c v) w s = rw (s a w.0, s c w.1)

-- the rows from number f on have the clocks that the rules give them
abbrev pub Clocked : (ℕ → Clock) → ℕ → List Row → Type 0
Clocked clk f rs = Each (λ (g : ℕ) (r : Row). clock_of clk g r ≡ good (clk g)) f rs

-- ks' has the clocks of ks and more
abbrev Extends : List Clock → List Clock → Type 0
Extends ks ks' = (a : ℕ) → a < length ks → clock_at ks a ≡ clock_at ks' a

-- past rows that have clocks
pub clocks_past : (js : List Clock) (front back : List Row) (ks : List Clock) → clocks_from js front ≡ good ks → clocks_from js (front ++ back) ≡ clocks_from ks back
unfolding clocks_from
clocks_past js [] back ks e = ap (λ (l : List Clock). clocks_from l back) (good_inj e)
clocks_past js (r ∷ front) back ks e = go (clock_of (clock_at js) (length js) r) (λ k. clocks_past (js ++ (k ∷ [])) front back ks) e
  where
    go : (v : Result Clock) → ((k : Clock) → clocks_from (js ++ (k ∷ [])) front ≡ good ks → clocks_from (js ++ (k ∷ [])) (front ++ back) ≡ clocks_from ks back)
        → then v (λ k. clocks_from (js ++ (k ∷ [])) front) ≡ good ks → then v (λ k. clocks_from (js ++ (k ∷ [])) (front ++ back)) ≡ clocks_from ks back
    go (good k) next h = next k h
    go (refused why g) next h = not_good h

-- The rows all have clocks, or there is a first that is refused.
data View (ks : List Clock) (rs : List Row) : Result (List Clock) → Type 0 where
  all : (ks' : List Clock) → Extends ks ks' → length ks' ≡ length ks + length rs → Clocked (clock_at ks') (length ks) rs → View ks rs (good ks')
  first : (ks' : List Clock) (why : Refusal) (g : ℕ) (front : List Row) (r : Row) (back : List Row) → rs ≡ front ++ (r ∷ back)
      → Extends ks ks' → length ks' ≡ length ks + length front → Clocked (clock_at ks') (length ks) front → clock_of (clock_at ks') (length ks') r ≡ refused why g
      → View ks rs (refused why g)

module _ (m : ℕ) (ks : List Clock) (r : Row) (k : Clock) (w : Fits m (length ks) r) (e : clock_of (clock_at ks) (length ks) r ≡ good k) where
  longer : length (ks ++ (k ∷ [])) ≡ suc (length ks)
  longer = length-append ks (k ∷ []) ∙ omega arith

  module _ (ks' : List Clock) (x : Extends (ks ++ (k ∷ [])) ks') where
    before : Extends ks ks'
    before a l = sym (get_or-append ks (k ∷ []) (every 1 0) a l) ∙ x a (rw longer (omega arith))

    here : clock_at ks' (length ks) ≡ k
    here = sym (x (length ks) (rw longer (omega arith))) ∙ get_or-append_seam ks k [] (every 1 0)

    ruled : (rs : List Row) → Clocked (clock_at ks') (length (ks ++ (k ∷ []))) rs → Clocked (clock_at ks') (length ks) (r ∷ rs)
    ruled rs c = (
      sym (clock_local (clock_at ks) (clock_at ks') m (length ks) r w before) ∙ e ∙ ap good (sym here),
      subst (λ (i : ℕ). Clocked (clock_at ks') i rs) longer c,
    )

  extend : (rs : List Row) (c : Result (List Clock)) → View (ks ++ (k ∷ [])) rs c → View ks (r ∷ rs) c
  extend rs c (all ks' x s ck) = all ks' (before ks' x) (s ∙ rw longer (omega arith)) (ruled ks' x rs ck)
  extend rs c (first ks' why g front q back y x s ck z) =
      first ks' why g (r ∷ front) q back (ap (λ (l : List Row). r ∷ l) y) (before ks' x) (s ∙ rw longer (omega arith)) (ruled ks' x front ck) z

rows_view : (m : ℕ) (ks : List Clock) (rs : List Row) → AllFit m (length ks) rs → View ks rs (clocks_from ks rs)
unfolding clocks_from
rows_view m ks [] w = all ks (λ a x. refl) (omega arith) tt
rows_view m ks (r ∷ rs) w = go (clock_of (clock_at ks) (length ks) r) refl (λ k. rows_view m (ks ++ (k ∷ [])) rs)
  where
    go : (v : Result Clock) → clock_of (clock_at ks) (length ks) r ≡ v
        → ((k : Clock) → AllFit m (length (ks ++ (k ∷ []))) rs → View (ks ++ (k ∷ [])) rs (clocks_from (ks ++ (k ∷ [])) rs))
        → View ks (r ∷ rs) (clocks_from ks (r ∷ rs))
    go (good k) e h =
        rw (e, clocks_from)
        (extend m ks r k w.0 e rs _ (h k (subst (λ (i : ℕ). AllFit m i rs) (sym (longer m ks r k w.0 e)) w.1)))
    go (refused why g) e h = rw (e, clocks_from) (first ks why g [] r rs refl (λ a x. refl) (omega arith) tt e)

-- What the check comes to: clocks for all rows and sources that fit; a row that a rule refuses; or a register whose source differs.
pub data Checked (rows : List Row) : Result (List Clock) → Type 0 where
  fine : (ks : List Clock) → length ks ≡ length rows → Clocked (clock_at ks) 0 rows → Each (Passes (source_fits ks)) 0 rows → Checked rows (good ks)
  bad_row : (ks : List Clock) (why : Refusal) (g : ℕ) (front : List Row) (r : Row) (back : List Row) → rows ≡ front ++ (r ∷ back)
      → Clocked (clock_at ks) 0 front → clock_of (clock_at ks) (length front) r ≡ refused why g → Checked rows (refused why g)
  bad_source : (ks : List Clock) (g : ℕ) (front : List Row) (r : Row) (back : List Row) → Clocked (clock_at ks) 0 rows
      → rows ≡ front ++ (r ∷ back) → on_register (source_fits ks) r ≡ false → Checked rows (refused ClocksDiffer g)

sources_view : (rows : List Row) (ks : List Clock) (o : Option ℕ) → length ks ≡ length rows → Clocked (clock_at ks) 0 rows
    → Registers (source_fits ks) 0 rows o → Checked rows (sourced ks o)
sources_view rows ks o s k (all_pass h) = fine ks s k h
sources_view rows ks o s k (one_fails g front r back x y) = bad_source ks g front r back k x y

pub checked : (m : ℕ) (rows : List Row) → AllFit m 0 rows → Checked rows (clocks_of rows)
unfolding clocks_of
checked m rows w = go (clocks_from [] rows) (rows_view m [] rows w)
  where
    go : (c : Result (List Clock)) → View [] rows c → Checked rows (then c λ ks. sourced ks (bad_register (source_fits ks) 0 rows))
    go c (all ks x s k) = sources_view rows ks _ (s ∙ omega arith) k (registers (source_fits ks) 0 rows)
    go c (first ks why g front r back y x s k z) = bad_row ks why g front r back y k (subst (λ (i : ℕ). clock_of (clock_at ks) i r ≡ refused why g) (s ∙ omega arith) z)

-- so an accepted table has one clock a flow, as the rules give them, and the source of each register fits
abbrev pub Ruled : List Row → List Clock → Type 0
Ruled rows ks = (length ks ≡ length rows) × Clocked (clock_at ks) 0 rows × Each (Passes (source_fits ks)) 0 rows

pub clocks_ruled : (m : ℕ) (rows : List Row) (ks : List Clock) → AllFit m 0 rows → clocks_of rows ≡ good ks → Ruled rows ks
clocks_ruled m rows ks w e = go (clocks_of rows) (checked m rows w) e
  where
    go : (r : Result (List Clock)) → Checked rows r → r ≡ good ks → Ruled rows ks
    go r (fine js s k x) e = subst (Ruled rows) (good_inj e) (s, k, x)
    go r (bad_row js why g front r' back y k z) e = not_good e
    go r (bad_source js g front r' back k y z) e = not_good e

-- what follows for each condition follows for every one
pub every_map : (P Q : Condition → Type 0) (cs : List Condition) → ((c : Condition) → P c → Q c) → Every P cs → Every Q cs
every_map P Q [] h b = tt
every_map P Q (c ∷ cs) h b = (h c b.0, every_map P Q cs h b.1)

pub below_le : (f g : ℕ) (cs : List Condition) → f ≤ g → Below f cs → Below g cs
below_le f g cs l = every_map (λ (c : Condition). c.flow < f) (λ (c : Condition). c.flow < g) cs (λ (c : Condition) (x : c.flow < f). omega arith)

-- a condition more that has the property too
pub every_snoc : (P : Condition → Type 0) (cs : List Condition) (c : Condition) → Every P cs → P c → Every P (cs ++ (c ∷ []))
every_snoc P [] c b l = (l, tt)
every_snoc P (d ∷ cs) c b l = (b.0, every_snoc P cs c b.1 l)

pub first_snoc : (cs : List Condition) (c : Condition) → FirstViewed cs → c.view ≡ 0 → FirstViewed (cs ++ (c ∷ []))
first_snoc [] c b e = (omega arith, tt)
first_snoc (d ∷ cs) c b e = (b.0, every_snoc Direct cs c b.1 e)

-- the flow of a viewed condition begins by tick p
abbrev pub BegunBy : (ℕ → Clock) → ℕ → Condition → Type 0
BegunBy clk p c = 0 < c.view → (clk c.flow).phase ≤ p

-- The clock of flow f is within the limits, and its conditions are on lower flows. Only the first can be viewed; its flow begins by the phase.
pub record Sane (clk : ℕ → Clock) (f : ℕ) (k : Clock) : Type 0 where
  pub positive : 0 < k.period
  pub period_fits : k.period ≤ max_derived
  pub phase_fits : k.phase ≤ max_derived
  pub below : Below f k.conditions
  pub few : length k.conditions ≤ max_conditions
  pub viewed : FirstViewed k.conditions
  pub begun : Every (BegunBy clk k.phase) k.conditions

abbrev pub AllSane : (ℕ → Clock) → ℕ → Type 0
AllSane clk m = (f : ℕ) → f < m → Sane clk f (clk f)

module _ (clk : ℕ → Clock) (m : ℕ) where
  -- a lower flow's clock is as sane for a higher one
  of_lower : (f a : ℕ) → AllSane clk f → a < f → Sane clk f (clk a)
  of_lower f a s l =
      let k : Sane clk a (clk a) = s a l in
      record {
        positive = k.positive;
        period_fits = k.period_fits;
        phase_fits = k.phase_fits;
        below = below_le a f (clk a).conditions (omega arith) k.below;
        few = k.few;
        viewed = k.viewed;
        begun = k.begun;
      }

  -- a plain clock
  periodic : (f n p : ℕ) → 0 < n → n ≤ max_derived → p ≤ max_derived → Sane clk f (every n p)
  periodic f n p x y z = record { positive = x; period_fits = y; phase_fits = z; below = tt; few = omega arith; viewed = tt; begun = tt }

  -- one condition more, on a lower flow
  one_more : (f a c : ℕ) (u : Bool) (w : ℕ) → AllSane clk f → a < f → c < f → length (under (clk a) c u w).conditions ≤ max_conditions
      → FirstViewed (under (clk a) c u w).conditions → (0 < w → (clk c).phase ≤ (clk a).phase) → Sane clk f (under (clk a) c u w)
  one_more f a c u w s l h few viewed begun =
      let y : Sane clk f (clk a) = of_lower f a s l in
      let d : Condition = record { flow = c; truth = u; view = w } in
      record {
        positive = y.positive;
        period_fits = y.period_fits;
        phase_fits = y.phase_fits;
        below = every_snoc (λ (e : Condition). e.flow < f) (clk a).conditions d y.below h;
        few = few;
        viewed = viewed;
        begun = every_snoc (BegunBy clk (clk a).phase) (clk a).conditions d y.begun begun;
      }

  sane_row : (f : ℕ) (r : Row) (k : Clock) → Rule clk r k → Fits m f r → AllSane clk f → Sane clk f k
  sane_row f r k by_input w s = periodic f _ _ w.0.from (written_fits w.0.upto) (written_fits w.1)
  sane_row f r k by_constant w s = periodic f _ _ w.0.from (written_fits w.0.upto) (written_fits w.1)
  sane_row f r k (by_combine {a = a} x) w s = of_lower f a s w.0
  sane_row f r k (by_register {b = b}) w s = of_lower f b s w.0
  sane_row f r k (by_faster {a = a} x y) w s = periodic f _ _ w.2.from (written_fits w.2.upto) (s a w.0).phase_fits
  sane_row f r k (by_slower {a = a} x l) w s = periodic f _ _ (omega (arith, mul-le-mul w.1.from (s a w.0).positive)) l.period_fits l.phase_fits
  sane_row f r k (by_later {a = a} x l) w s = periodic f _ _ (s a w.0).positive l.period_fits l.phase_fits
  sane_row f r k (by_head {a = a} x y) w s = periodic f _ _ (s a w.0).positive (s a w.0).period_fits (written_fits w.1)
  sane_row f r k (by_tail {a = a} x l) w s = periodic f _ _ (s a w.0).positive l.period_fits l.phase_fits
  sane_row f r k (by_sample {u = u} {a = a} {c = c} x l) w s =
      one_more f a c u 0 s w.0 w.1 l.few (first_snoc (clk a).conditions _ (s a w.0).viewed refl) (λ v. absurd (omega arith))
  sane_row f r k (by_merge {c = c} x y) w s = of_lower f c s w.0
  sane_row f r k (by_view {u = u} {a = a} {c = c} {w = v} x y h) w s =
      one_more f a c u v s w.0 w.1 (rw (plain_empty (clk a) x) (omega arith)) (rw (plain_empty (clk a) x) (w.2.upto, tt)) (λ z. h.begun)

  sane_from : (f : ℕ) (rs : List Row) → AllFit m f rs → Clocked clk f rs → AllSane clk f → AllSane clk (f + length rs)
  sane_from f [] w k s = subst (AllSane clk) (omega arith) s
  sane_from f (r ∷ rs) w k s =
      subst (AllSane clk) (omega arith)
      (sane_from (suc f) rs w.1 k.1 (below_suc (λ (g : ℕ). Sane clk g (clk g)) f s (sane_row f r (clk f) (rule_of_lem clk f r (clk f) k.0) w.0 s)))

  -- the clocks that the rules give are sane
  pub all_sane : (rs : List Row) → AllFit m 0 rs → Clocked clk 0 rs → AllSane clk (length rs)
  all_sane rs w k = subst (AllSane clk) (omega arith) (sane_from 0 rs w k (λ f l. absurd (omega arith)))

-- what an accepted table's clocks are: one a flow, and sane
pub sane_clocks : (m : ℕ) (rows : List Row) (ks : List Clock) → AllFit m 0 rows → clocks_of rows ≡ good ks → (length ks ≡ length rows) × AllSane (clock_at ks) (length rows)
sane_clocks m rows ks w e = let r = clocks_ruled m rows ks w e in (r.0, all_sane (clock_at ks) m rows w r.1)

-- Each condition of a flow's clock is on a flow to which its row leads: conditions add nothing to what a flow feels. Assumes nothing.
use mathlib.Core.Path.{◌≡◌, refl, subst}
use Prim.Native.Nat.{ℕ, zero, suc, ◌≤◌, ◌<◌}
use native.Mathlib.Omega.{arith}
use mathlib.Core.Bool.{true, false≢true}
use mathlib.Core.List.{List, [], ◌∷◌, ◌++◌}
use lib.Dec.{eqb}
use borrow.Author.Tests.{eqb-true}
use Rattle.table.specs.Rows.{Row, operand}
use Rattle.table.specs.Plain.{row_words}
use Rattle.table.specs.Tables.{RowHas, Linked, row_at}
use Rattle.table.proofs.Tests.{or_left, one_of_lem, same_test}
use Rattle.table.proofs.Lists.{below_suc}
use Rattle.table.proofs.Linked.{linked}
use Rattle.checker.specs.Clocks.{Condition, Clock}
use Rattle.checker.specs.Rules.{clock_at, Every}
use Rattle.checker.proofs.RuleLaws.{Rule, by_input, by_constant, by_combine, by_register, by_faster, by_slower, by_later, by_head, by_tail}
use Rattle.checker.proofs.RuleLaws.{by_sample, by_merge, by_view, rule_of_lem}
use Rattle.checker.proofs.CheckLaws.{every_map, every_snoc}
use Rattle.reach.specs.Reach.{named, Leads, itself, onward, through}
use Rattle.reach.proofs.Closing.{leads_on, through_leads, leads_through, named_inside}
use Rattle.influence.specs.Felt.{condition_on, rests}
use Rattle.influence.proofs.Plans.{Plan}

-- what holds of each condition's flow holds of the flows that they are on
on_every : (P : ℕ → Type 0) (cs : List Condition) (g : ℕ) → Every (λ (c : Condition). P c.flow) cs → condition_on cs g ≡ true → P g
unfolding condition_on
on_every P [] g h e = absurd (false≢true e)
on_every P (c ∷ cs) g h e = one_of_lem (eqb c.flow g) _ (λ x. subst P (eqb-true c.flow g x) h.0) (on_every P cs g h.1) e

module _ (m : ℕ) (words : List ℕ) (ks : List Clock) (p : Plan m words ks) where
  inside : (f g : ℕ) → f < m → named words f g ≡ true → g < m
  inside = named_inside m words p.rows p.table

  -- a flow rests on what its row names
  pub rest_named : (f g : ℕ) → named words f g ≡ true → rests words ks f g ≡ true
  unfolding rests
  rest_named f g e = or_left _ _ e

  pub by_rests : (f g : ℕ) → Leads (named words) f g → Leads (rests words ks) f g
  by_rests f g itself = itself
  by_rests f g (onward h i x e) = onward h g (by_rests f h x) (rest_named h g e)

  -- row f leads to the flow of each condition
  abbrev LedTo : ℕ → List Condition → Type 0
  LedTo f cs = Every (λ (c : Condition). Leads (named words) f c.flow) cs

  module _ (f : ℕ) (h : (a : ℕ) → a < f → LedTo a (clock_at ks a).conditions) where
    abbrev Operand : ℕ → Type 0
    Operand = Linked (λ g. named words f g ≡ true) m f operand

    step : (a : ℕ) → Operand a → Leads (named words) f a
    step a l = onward f a itself (l.1 refl)

    -- to those of an operand's clock
    by : (a : ℕ) → Operand a → LedTo f (clock_at ks a).conditions
    by a l =
        every_map (λ (c : Condition). Leads (named words) a c.flow) (λ (c : Condition). Leads (named words) f c.flow) (clock_at ks a).conditions
        (λ c x. leads_on (named words) f a c.flow (step a l) x) (h a l.0)

    and_one : (a : ℕ) (c : Condition) → Operand a → Operand c.flow → LedTo f ((clock_at ks a).conditions ++ (c ∷ []))
    and_one a c l k = every_snoc (λ (d : Condition). Leads (named words) f d.flow) (clock_at ks a).conditions c (by a l) (step c.flow k)

    row_led : (r : Row) (k : Clock) → Rule (clock_at ks) r k → RowHas (Linked (λ g. named words f g ≡ true) m f) r → LedTo f k.conditions
    row_led r k by_input l = tt
    row_led r k by_constant l = tt
    row_led r k (by_combine {a = a} x) l = by a l.0
    row_led r k (by_register {b = b}) l = by b l.0
    row_led r k (by_faster x y) l = tt
    row_led r k (by_slower x y) l = tt
    row_led r k (by_later x y) l = tt
    row_led r k (by_head x y) l = tt
    row_led r k (by_tail x y) l = tt
    row_led r k (by_sample {u = u} {a = a} {c = c} x y) l = and_one a (record { flow = c; truth = u; view = 0 }) l.0 l.1
    row_led r k (by_merge {c = c} x y) l = by c l.0
    row_led r k (by_view {u = u} {a = a} {c = c} {w = w} x y z) l = and_one a (record { flow = c; truth = u; view = w }) l.0 l.1

  all_led : (n : ℕ) → n ≤ m → (f : ℕ) → f < n → LedTo f (clock_at ks f).conditions
  all_led zero l = λ f x. absurd (omega arith)
  all_led (suc n) l =
      let h : (f : ℕ) → f < n → LedTo f (clock_at ks f).conditions = all_led n (omega arith) in
      below_suc (λ (f : ℕ). LedTo f (clock_at ks f).conditions) n h
      (row_led n h (row_at p.rows n) (clock_at ks n) (rule_of_lem (clock_at ks) n (row_at p.rows n) (clock_at ks n) (p.clock_of_lem n (omega arith)))
      (linked (row_words words n) (λ g. named words n g ≡ true) m n (row_at p.rows n) (p.table.row_at_lem n (omega arith)) (λ g e. e)))

  -- with conditions or without: the same flows
  pub by_rows : (f g : ℕ) → f < m → Leads (rests words ks) f g → (g < m) × Leads (named words) f g
  unfolding rests
  by_rows f g l itself = (l, itself)
  by_rows f g l (onward h i x e) = go (by_rows f h l x)
    where
      go : (h < m) × Leads (named words) f h → (g < m) × Leads (named words) f g
      go y =
          let k : Leads (named words) h g =
          one_of_lem (named words h g) _ (λ z. onward h g itself z) (on_every (Leads (named words) h) (clock_at ks h).conditions g (all_led m (omega arith) h y.0)) e in
          ((leads_through (named words) m inside h g y.0 k).0, leads_on (named words) f h g y.1 k)

  pub rests_inside : (f g : ℕ) → f < m → rests words ks f g ≡ true → g < m
  rests_inside f g l e = (by_rows f g l (onward f g itself e)).0

  pub same_closure : (f g : ℕ) → f < m → through (rests words ks) m f g ≡ through (named words) m f g
  same_closure f g l =
      same_test _ _ (λ e. (leads_through (named words) m inside f g l (by_rows f g l (through_leads (rests words ks) m f g e)).1).1)
      (λ e. (leads_through (rests words ks) m rests_inside f g l (by_rests f g (through_leads (named words) m f g e))).1)

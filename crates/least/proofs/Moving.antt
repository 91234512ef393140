-- A clock with the flows of its conditions renumbered: each rule gives a row's clock so, and refuses alike. Assumes nothing.
use mathlib.Core.Path.{◌≡◌, refl, sym, ◌∙◌, ap, ap₂}
use Prim.Native.Nat.{ℕ, suc, ◌+◌, ◌*◌}
use native.Mathlib.Omega.{arith}
use mathlib.Core.Bool.{Bool, true, false, ◌&&◌, beq}
use mathlib.Core.List.{List, [], ◌∷◌, ◌++◌, map}
use lib.Dec.{eqb, leb}
use lib.ListN.{length}
use borrow.Author.Tests.{eqb-true, eq-eqb}
use Rattle.table.specs.declared.refusal.Refusal.{Refusal}
use Rattle.table.specs.declared.refusal.Refusal.TheVariants.{ClocksDiffer, BeyondLimits, NotPlain, BadView}
use Rattle.table.specs.Answers.{Result, good, unless}
use Rattle.table.specs.Rows.{Row, input, constant, combine, register, faster, slower, later, head, tail, sample, merge, unrated, view}
use Rattle.table.specs.Rows.{Field, operand}
use Rattle.table.specs.Tables.{RowHas}
use Rattle.table.proofs.Tests.{same_test}
use Rattle.checker.specs.Clocks.{Condition, Clock, every, is_empty, plain, same_conditions, same_clock, under}
use Rattle.checker.specs.Rules.{max_derived, max_conditions, within_limits, limited, view_fits, clock_of, Every}
use Rattle.checker.proofs.RuleLaws.{Rule, by_input, by_constant, by_combine, by_register, by_faster, by_slower, by_later, by_head, by_tail, by_sample, by_merge, by_view, rule_of_lem}
use Rattle.checker.proofs.CheckLaws.{every_snoc}
use Rattle.reach.specs.Sets.{Flows}
use Rattle.least.specs.Parts.{below}
use Rattle.least.specs.PartChecks.{move_condition, move_clock, move_result}
use Rattle.least.proofs.Numbers.{below_inj}
use Rattle.least.proofs.Renumbering.{renumber}

-- the conditions are on flows of the set
abbrev pub Inside : Flows → List Condition → Type 0
Inside s cs = Every (λ (c : Condition). s c.flow ≡ true) cs

inside_under : (s : Flows) (k : Clock) (c : ℕ) (u : Bool) (w : ℕ) → Inside s k.conditions → s c ≡ true → Inside s (under k c u w).conditions
inside_under s k c u w h e = every_snoc (λ (d : Condition). s d.flow ≡ true) k.conditions _ h e

map_snoc : (ρ : ℕ → ℕ) (cs : List Condition) (c : Condition) → map (move_condition ρ) (cs ++ (c ∷ [])) ≡ map (move_condition ρ) cs ++ (move_condition ρ c ∷ [])
map_snoc ρ [] c = refl
map_snoc ρ (d ∷ cs) c = ap (λ (l : List Condition). move_condition ρ d ∷ l) (map_snoc ρ cs c)

map_size : (ρ : ℕ → ℕ) (cs : List Condition) → length (map (move_condition ρ) cs) ≡ length cs
map_size ρ [] = refl
map_size ρ (c ∷ cs) = ap suc (map_size ρ cs)

module _ (s : Flows) where
  abbrev ρ : ℕ → ℕ
  ρ = below s

  same_flow : (f g : ℕ) → s f ≡ true → s g ≡ true → eqb (ρ f) (ρ g) ≡ eqb f g
  same_flow f g p q =
      same_test (eqb (ρ f) (ρ g)) (eqb f g) (λ e. eq-eqb f g (below_inj s f g p q (eqb-true (ρ f) (ρ g) e))) (λ e. eq-eqb (ρ f) (ρ g) (ap ρ (eqb-true f g e)))

  same_moved : (cs ds : List Condition) → Inside s cs → Inside s ds → same_conditions (map (move_condition ρ) cs) (map (move_condition ρ) ds) ≡ same_conditions cs ds
  same_moved [] [] h k = refl
  same_moved [] (d ∷ ds) h k = refl
  same_moved (c ∷ cs) [] h k = refl
  same_moved (c ∷ cs) (d ∷ ds) h k =
      ap₂ ◌&&◌ (same_flow c.flow d.flow h.0 k.0) (ap (λ (b : Bool). beq c.truth d.truth && (eqb c.view d.view && b)) (same_moved cs ds h.1 k.1))

  pub clock_moved_same : (j k : Clock) → Inside s j.conditions → Inside s k.conditions → same_clock (move_clock ρ j) (move_clock ρ k) ≡ same_clock j k
  clock_moved_same j k p q =
      ap (λ (b : Bool). eqb j.period k.period && (eqb j.phase k.phase && b)) (same_moved j.conditions k.conditions p q)

  plain_moved : (k : Clock) → plain (move_clock ρ k) ≡ plain k
  plain_moved k = go k.conditions
    where
      go : (cs : List Condition) → is_empty (map (move_condition ρ) cs) ≡ is_empty cs
      go [] = refl
      go (c ∷ cs) = refl

  limits_moved : (k : Clock) → within_limits (move_clock ρ k) ≡ within_limits k
  limits_moved k =
      ap (λ (n : ℕ). leb k.period max_derived && (leb k.phase max_derived && leb n max_conditions)) (map_size ρ k.conditions)

  under_moved : (k : Clock) (c : ℕ) (u : Bool) (w : ℕ) → move_clock ρ (under k c u w) ≡ under (move_clock ρ k) (ρ c) u w
  under_moved k c u w =
      ap (λ (l : List Condition). let j : Clock = record { period = k.period; phase = k.phase; conditions = l } in j)
      (map_snoc ρ k.conditions (record { flow = c; truth = u; view = w }))

  unless_moved : (b b' : Bool) (why : Refusal) (f : ℕ) (r r' : Result Clock) → b ≡ b' → r ≡ move_result ρ r' → unless b why (ρ f) r ≡ move_result ρ (unless b' why f r')
  unless_moved true true why f r r' e h = h
  unless_moved true false why f r r' e h = absurd (let z : ◌≡◌ {A = ℕ} 0 1 = cc in omega arith)
  unless_moved false true why f r r' e h = absurd (let z : ◌≡◌ {A = ℕ} 0 1 = cc in omega arith)
  unless_moved false false why f r r' e h = refl

  limited_moved : (f : ℕ) (k : Clock) → limited (ρ f) (move_clock ρ k) ≡ move_result ρ (limited f k)
  limited_moved f k = unless_moved (within_limits (move_clock ρ k)) (within_limits k) BeyondLimits f _ (good k) (limits_moved k) refl

  -- the clocks of lower flows of the set have been renumbered, and their conditions are on flows of it
  module _ (f : ℕ) (P : Field → ℕ → Type 0) (clk clk' : ℕ → Clock) (agree : (a : ℕ) → P operand a → clk' (ρ a) ≡ move_clock ρ (clk a))
      (inside : (a : ℕ) → P operand a → Inside s (clk a).conditions) (member : (a : ℕ) → P operand a → s a ≡ true) where
    abbrev Moved : Row → Type 0
    Moved r = clock_of clk' (ρ f) (renumber ρ r) ≡ move_result ρ (clock_of clk f r)

    plain_agrees : (a : ℕ) → P operand a → plain (clk' (ρ a)) ≡ plain (clk a)
    plain_agrees a l = ap plain (agree a l) ∙ plain_moved (clk a)

    -- a rule that asks for a plain clock
    plain_first : (a : ℕ) (r r' : Result Clock) → P operand a → r ≡ move_result ρ r'
        → unless (plain (clk' (ρ a))) NotPlain (ρ f) r ≡ move_result ρ (unless (plain (clk a)) NotPlain f r')
    plain_first a r r' l e = unless_moved (plain (clk' (ρ a))) (plain (clk a)) NotPlain f r r' (plain_agrees a l) e

    -- two clocks compared
    both : (a b : ℕ) → P operand a → P operand b → same_clock (clk' (ρ a)) (clk' (ρ b)) ≡ same_clock (clk a) (clk b)
    both a b p q = ap₂ same_clock (agree a p) (agree b q) ∙ clock_moved_same (clk a) (clk b) (inside a p) (inside b q)

    -- a condition more
    under_agrees : (a c : ℕ) (u : Bool) (w : ℕ) → P operand a → under (clk' (ρ a)) (ρ c) u w ≡ move_clock ρ (under (clk a) c u w)
    under_agrees a c u w p = ap (λ (k : Clock). under k (ρ c) u w) (agree a p) ∙ sym (under_moved (clk a) c u w)

    branch : (a c : ℕ) (u : Bool) → P operand a → P operand c → same_clock (clk' (ρ a)) (under (clk' (ρ c)) (ρ c) u 0) ≡ same_clock (clk a) (under (clk c) c u 0)
    branch a c u p q =
        ap₂ same_clock (agree a p) (under_agrees c c u 0 q)
        ∙ clock_moved_same (clk a) (under (clk c) c u 0) (inside a p) (inside_under s (clk c) c u 0 (inside c q) (member c q))

    pub clock_moved : (r : Row) → RowHas P r → Moved r
    unfolding clock_of
    clock_moved (input n p) l = refl
    clock_moved (constant v n p) l = refl
    clock_moved (combine op a b) l =
        unless_moved (same_clock (clk' (ρ a)) (clk' (ρ b))) (same_clock (clk a) (clk b)) ClocksDiffer f _ (good (clk a)) (both a b l.0 l.1) (ap good (agree a l.0))
    clock_moved (register v b a) l = ap good (agree b l.0)
    clock_moved (faster a k g) l =
        plain_first a _ _ l.0
        (unless_moved (eqb (clk' (ρ a)).period (k * g)) (eqb (clk a).period (k * g)) ClocksDiffer f _ (good (every g (clk a).phase))
        (ap (λ (j : Clock). eqb j.period (k * g)) (agree a l.0)) (ap (λ (j : Clock). good (every g j.phase)) (agree a l.0)))
    clock_moved (slower a k) l =
        plain_first a _ _ l.0
        (ap (λ (j : Clock). limited (ρ f) (every (k * j.period) j.phase)) (agree a l.0) ∙ limited_moved f (every (k * (clk a).period) (clk a).phase))
    clock_moved (later a d) l =
        plain_first a _ _ l.0
        (ap (λ (j : Clock). limited (ρ f) (every j.period (j.phase + d))) (agree a l.0) ∙ limited_moved f (every (clk a).period ((clk a).phase + d)))
    clock_moved (head a v t) l =
        plain_first a _ _ l.0
        (unless_moved (eqb (clk' (ρ a)).phase (t + (clk' (ρ a)).period)) (eqb (clk a).phase (t + (clk a).period)) ClocksDiffer f _ (good (every (clk a).period t))
        (ap (λ (j : Clock). eqb j.phase (t + j.period)) (agree a l.0)) (ap (λ (j : Clock). good (every j.period t)) (agree a l.0)))
    clock_moved (tail a) l =
        plain_first a _ _ l.0
        (ap (λ (j : Clock). limited (ρ f) (every j.period (j.phase + j.period))) (agree a l.0) ∙ limited_moved f (every (clk a).period ((clk a).phase + (clk a).period)))
    clock_moved (sample u a c) l =
        unless_moved (same_clock (clk' (ρ a)) (clk' (ρ c))) (same_clock (clk a) (clk c)) ClocksDiffer f _ (limited f (under (clk a) c u 0)) (both a c l.0 l.1)
        (ap (limited (ρ f)) (under_agrees a c u 0 l.0) ∙ limited_moved f (under (clk a) c u 0))
    clock_moved (merge c a b) l =
        unless_moved (same_clock (clk' (ρ a)) (under (clk' (ρ c)) (ρ c) true 0) && same_clock (clk' (ρ b)) (under (clk' (ρ c)) (ρ c) false 0))
        (same_clock (clk a) (under (clk c) c true 0) && same_clock (clk b) (under (clk c) c false 0)) ClocksDiffer f _ (good (clk c))
        (ap₂ ◌&&◌ (branch a c true l.1 l.0) (branch b c false l.2 l.0)) (ap good (agree c l.0))
    clock_moved unrated l = refl
    clock_moved (view u a c w) l =
        unless_moved (plain (clk' (ρ a)) && plain (clk' (ρ c))) (plain (clk a) && plain (clk c)) NotPlain f _ _ (ap₂ ◌&&◌ (plain_agrees a l.0) (plain_agrees c l.1))
        (unless_moved (view_fits w (clk' (ρ a)) (clk' (ρ c))) (view_fits w (clk a) (clk c)) BadView f _ (good (under (clk a) c u w)) (ap₂ (view_fits w) (agree a l.0) (agree c l.1))
        (ap good (under_agrees a c u w l.0)))

    -- the row's clock has its conditions on flows of the set too
    inside_rule : (r : Row) (k : Clock) → Rule clk r k → RowHas P r → Inside s k.conditions
    inside_rule r k by_input l = tt
    inside_rule r k by_constant l = tt
    inside_rule r k (by_combine {a = a} x) l = inside a l.0
    inside_rule r k (by_register {b = b}) l = inside b l.0
    inside_rule r k (by_faster x y) l = tt
    inside_rule r k (by_slower x y) l = tt
    inside_rule r k (by_later x y) l = tt
    inside_rule r k (by_head x y) l = tt
    inside_rule r k (by_tail x y) l = tt
    inside_rule r k (by_sample {a = a} {c = c} x y) l = inside_under s (clk a) c _ 0 (inside a l.0) (member c l.1)
    inside_rule r k (by_merge {c = c} x y) l = inside c l.0
    inside_rule r k (by_view {a = a} {c = c} {w = w} x y v) l = inside_under s (clk a) c _ w (inside a l.0) (member c l.1)

    pub inside_clock : (r : Row) (k : Clock) → clock_of clk f r ≡ good k → RowHas P r → Inside s k.conditions
    inside_clock r k e l = inside_rule r k (rule_of_lem clk f r k e) l

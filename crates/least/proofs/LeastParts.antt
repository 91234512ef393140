-- The search over the flows finds the least part, and there is no other. Assumes nothing.
use mathlib.Core.Path.{◌≡◌, refl, sym, ◌∙◌, ap}
use Prim.Native.Nat.{ℕ, zero, suc, ◌+◌, ◌≤◌, ◌<◌}
use native.Mathlib.Omega.{arith}
use mathlib.Core.Bool.{true, ◌&&◌, false≢true}
use mathlib.Core.List.{List}
use lib.Dec.{ltb}
use borrow.Author.Tests.{ltb-true, ltb-false, eqb-true, eq-eqb}
use Rattle.table.specs.declared.refusal.Refusal.TheVariants.{ClocksDiffer}
use Rattle.table.specs.Answers.{refused}
use Rattle.table.specs.Rows.{Row, max_flows}
use Rattle.table.specs.Tables.{row_at}
use Rattle.table.specs.Plain.{row_words}
use Rattle.table.proofs.Tests.{Tried, passed, failed, try, and_left, and_right, and_both, same_test}
use Rattle.table.proofs.Lists.{below_suc}
use Rattle.table.proofs.Tables.{Table}
use Rattle.table.proofs.Linked.{names_inside}
use Rattle.checker.specs.Rules.{clocks_of}
use Rattle.reach.specs.Sets.{Flows}
use Rattle.reach.specs.Reach.{named, Leads, itself, onward, closure}
use Rattle.reach.proofs.Closing.{through_itself, through_step, through_leads, leads_through}
use Rattle.least.specs.Parts.{Part, part_count, Differs, Drawn, LeastPart}
use Rattle.least.specs.Answers.{drawn_count, drawn_differs, Best, best, least_flow, least_set}
use Rattle.least.proofs.Numbers.{below_le, below_subset}
use Rattle.least.proofs.Chosen.{every_flow}
use Rattle.least.proofs.Outcomes.{Refusing, refused_in, inner_refusing}
use Rattle.least.proofs.PartTables.{differs_refusing, refusing_differs, whole_refusing}

module _ (m : ℕ) (words : List ℕ) where
  -- the first of the flows below n with fewest flows in a closure that is answered with 21
  record Found (n : ℕ) (b : Best) : Type 0 where
    near : b.flow ≤ n
    is : b.count ≤ max_flows → (b.flow < n) × (drawn_differs m words b.flow ≡ true) × (drawn_count m words b.flow ≡ b.count)
    least : (f : ℕ) → f < n → drawn_differs m words f ≡ true → b.count ≤ drawn_count m words f
    lowest : (f : ℕ) → f < n → drawn_differs m words f ≡ true → drawn_count m words f ≡ b.count → b.flow ≤ f

  found : (n : ℕ) → Found n (best m words n)
  unfolding best
  found zero = record { near = omega arith; is = λ (x : max_flows + 1 ≤ max_flows). absurd (omega arith); least = λ f l. absurd (omega arith); lowest = λ f l. absurd (omega arith) }
  found (suc n) = go (try (ltb (drawn_count m words n) (best m words n).count && drawn_differs m words n)) (found n)
    where
      go : Tried (ltb (drawn_count m words n) (best m words n).count && drawn_differs m words n) → Found n (best m words n) → Found (suc n) (best m words (suc n))
      go (passed e) h =
          let l : drawn_count m words n < (best m words n).count = ltb-true _ _ (and_left (ltb (drawn_count m words n) (best m words n).count) _ e) in
          let d : drawn_differs m words n ≡ true = and_right (ltb (drawn_count m words n) (best m words n).count) _ e in
          rw (e, best)
          record {
            near = omega arith;
            is = λ x. (omega arith, d, refl);
            least = below_suc (λ (f : ℕ). drawn_differs m words f ≡ true → drawn_count m words n ≤ drawn_count m words f) n (λ f x y. omega (arith, h.least f x y)) (λ x. omega arith);
            lowest =
                below_suc (λ (f : ℕ). drawn_differs m words f ≡ true → drawn_count m words f ≡ drawn_count m words n → n ≤ f)
                n (λ f x y z. absurd (omega (arith, h.least f x y, z))) (λ x y. omega arith);
          }
      go (failed e) h =
          rw (e, best)
          record {
            near = omega (arith, h.near);
            is = λ x. (omega (arith, (h.is x).0), (h.is x).1, (h.is x).2);
            least = below_suc (λ (f : ℕ). drawn_differs m words f ≡ true → (best m words n).count ≤ drawn_count m words f) n h.least last;
            lowest = below_suc (λ (f : ℕ). drawn_differs m words f ≡ true → drawn_count m words f ≡ (best m words n).count → (best m words n).flow ≤ f) n h.lowest (λ x y. h.near);
          }
        where
          last : drawn_differs m words n ≡ true → (best m words n).count ≤ drawn_count m words n
          last x = few (try (ltb (drawn_count m words n) (best m words n).count))
            where
              few : Tried (ltb (drawn_count m words n) (best m words n).count) → (best m words n).count ≤ drawn_count m words n
              few (passed y) = absurd (false≢true (sym e ∙ and_both y x))
              few (failed y) = ltb-false _ _ y

-- ---- closures

module _ (m : ℕ) (words : List ℕ) where
  pub closure_part : (f : ℕ) → Part m words (closure m words f)
  closure_part f g h l x e = through_step (named words) m f g h l x e

module _ (m : ℕ) (words : List ℕ) (rows : List Row) (t : Table m words rows) where
  inside : (f g : ℕ) → f < m → named words f g ≡ true → g < m
  inside f g l e = names_inside m f (row_words words f) (row_at rows f) (omega arith) (t.row_at_lem f l) g e

  -- a part has the flows to which one of its flows leads
  leads_in : (s : Flows) → Part m words s → (f g : ℕ) → f < m → s f ≡ true → Leads (named words) f g → (g < m) × (s g ≡ true)
  leads_in s part f g l e itself = (l, e)
  leads_in s part f g l e (onward h i x n) =
      let y : (h < m) × (s h ≡ true) = leads_in s part f h l e x in
      (inside h g y.0 n, part h g y.0 y.1 n)

  closure_in : (s : Flows) → Part m words s → (f g : ℕ) → f < m → s f ≡ true → closure m words f g ≡ true → s g ≡ true
  closure_in s part f g l e x = (leads_in s part f g l e (through_leads (named words) m f g x)).1

  leads_closure : (f g : ℕ) → f < m → Leads (named words) f g → closure m words f g ≡ true
  leads_closure f g l x = (leads_through (named words) m inside f g l x).1

  -- a flow's closure inside a set is answered with 21 where the set is refused so at a flow of the closure
  closure_differs : (s : Flows) (f g : ℕ) → ((h : ℕ) → h < m → closure m words f h ≡ true → s h ≡ true) → closure m words f g ≡ true → Refusing m rows s ClocksDiffer g
      → Differs m words (closure m words f)
  closure_differs s f g subset x r =
      refusing_differs m words rows t (closure m words f) (closure_part m words f) g (inner_refusing m rows s (closure m words f) subset ClocksDiffer g x r)

  -- THE CLOSURE OF THE FLOW THAT A 21 NAMES
  pub named_differs : (g : ℕ) → clocks_of rows ≡ refused ClocksDiffer g → (g < m) × Differs m words (closure m words g)
  named_differs g e =
      let r : Refusing m rows every_flow ClocksDiffer g = whole_refusing m words rows t ClocksDiffer g e in
      ((refused_in m rows every_flow ClocksDiffer g r).0, closure_differs every_flow g g (λ h l x. refl) (through_itself (named words) m g) r)

  -- so in each part that is answered with 21 there is a flow whose closure is
  part_drawn : (s : Flows) → Part m words s → Differs m words s → (f : ℕ) × (f < m) × (drawn_differs m words f ≡ true) × (drawn_count m words f ≤ part_count m s)
  part_drawn s part d =
      let x = differs_refusing m words rows t s part d in
      let g : ℕ = x.0 in
      let y : (g < m) × (s g ≡ true) = refused_in m rows s ClocksDiffer g x.1 in
      let sub : (h : ℕ) → h < m → closure m words g h ≡ true → s h ≡ true = λ h l z. closure_in s part g h y.0 y.1 z in
      (g, y.0, eq-eqb _ _ (closure_differs s g g sub (through_itself (named words) m g) x.1), below_subset s (closure m words g) m sub)

  drawn_few : (f : ℕ) → drawn_count m words f ≤ max_flows
  drawn_few f = omega (arith, below_le (closure m words f) m, t.few)

  -- WISH 6 of a plan that the check answers with 21
  module _ (g : ℕ) (refusal : clocks_of rows ≡ refused ClocksDiffer g) where
    some_drawn : (g < m) × (drawn_differs m words g ≡ true)
    some_drawn = let x = named_differs g refusal in (x.0, eq-eqb _ _ x.1)

    h : Found m words m (best m words m)
    h = found m words m

    pub is : (least_flow m words < m) × (drawn_differs m words (least_flow m words) ≡ true) × (drawn_count m words (least_flow m words) ≡ (best m words m).count)
    is = h.is (omega (arith, h.least g some_drawn.0 some_drawn.1, drawn_few g))

    pub least_part : LeastPart m words (least_set m words)
    least_part = record {
      part = closure_part m words (least_flow m words);
      differs = eqb-true _ _ is.1;
      fewest = λ s part d. (let x = part_drawn s part d in omega (arith, h.least x.0 x.1 x.2, x.3, is.2));
      flow = least_flow m words;
      drawn = record { in_plan = is.0; inside = through_itself (named words) m (least_flow m words); leads = λ f l e. through_leads (named words) m (least_flow m words) f e };
      lowest = λ s f part d n x. lower s f part d n x;
    }
      where
        lower : (s : Flows) (f : ℕ) → Part m words s → Differs m words s → part_count m s ≡ drawn_count m words (least_flow m words) → Drawn m words s f → least_flow m words ≤ f
        lower s f part d n x =
            let y = differs_refusing m words rows t s part d in
            let z : (y.0 < m) × (s y.0 ≡ true) = refused_in m rows s ClocksDiffer y.0 y.1 in
            let sub : (i : ℕ) → i < m → closure m words f i ≡ true → s i ≡ true = λ i l k. closure_in s part f i x.in_plan x.inside k in
            let sup : (i : ℕ) → i < m → s i ≡ true → closure m words f i ≡ true = λ i l k. leads_closure f i x.in_plan (x.leads i l k) in
            let c : drawn_differs m words f ≡ true = eq-eqb _ _ (closure_differs s f y.0 sub (sup y.0 z.0 z.1) y.1) in
            h.lowest f x.in_plan c
            (omega (arith, n, is.2, below_subset s (closure m words f) m sub, below_subset (closure m words f) s m sup))

  -- ---- no other

  -- a least part is the closure of its flow
  pub one_closure : (s : Flows) (p : LeastPart m words s) (i : ℕ) → i < m → s i ≡ closure m words p.flow i
  one_closure s p i l =
      same_test (s i) (closure m words p.flow i) (λ x. leads_closure p.flow i p.drawn.in_plan (p.drawn.leads i l x))
      (λ x. closure_in s p.part p.flow i p.drawn.in_plan p.drawn.inside x)

  pub one_part : (s u : Flows) → LeastPart m words s → LeastPart m words u → (i : ℕ) → i < m → s i ≡ u i
  one_part s u p q i l =
      let a : part_count m s ≤ part_count m u = p.fewest u q.part q.differs in
      let b : part_count m u ≤ part_count m s = q.fewest s p.part p.differs in
      let e : p.flow ≡ q.flow = omega (arith, p.lowest u q.flow q.part q.differs (omega arith) q.drawn, q.lowest s p.flow p.part p.differs (omega arith) p.drawn) in
      one_closure s p i l ∙ ap (λ (f : ℕ). closure m words f i) e ∙ sym (one_closure u q i l)

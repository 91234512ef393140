-- The flows with which a row joins its result are among those that it names; what holds of them, by field and by row. Assumes nothing.
use mathlib.Core.Path.{◌≡◌, refl, sym, subst}
use Prim.Native.Nat.{ℕ, ◌+◌}
use native.Mathlib.Omega.{arith}
use mathlib.Core.Bool.{Bool, true, false, cond, false≢true}
use lib.Dec.{leb}
use borrow.Author.Tests.{eqb-true, eq-eqb}
use Rattle.table.specs.declared.FlowFields.{FlowFields}
use Rattle.table.specs.Rows.{Row, view, Kind, kinds, kind_at, Words, first_view}
use Rattle.table.specs.Tables.{RowHas, Named}
use Rattle.table.specs.Links.{is_flow, flow_fields, field_names, names}
use Rattle.table.proofs.Tests.{and_left, and_right, and_both, or_left}
use Rattle.table.proofs.Lists.{Each, each_entry}
use Rattle.table.proofs.Entries.{kind_there}
use Rattle.table.proofs.Tables.{Made}
use Rattle.table.proofs.Linked.{first_named, second_named, third_named, words_have, names_have}
use Rattle.reach.specs.Sets.{Flows}
use Rattle.rates.specs.Joins.{row_joins}
use Rattle.rates.specs.Private.Spread.{join_fields, row_made}

module _ (w : Words) where
  -- the flow in the first field
  abbrev first : Flows
  first = field_names (kind_at w.kind).one w.one

  -- what holds of the first field alone, with which a view joins, and of all that the row names
  either : (P : FlowFields → Flows → Type 0) → P (record { one = (flow_fields w.kind).one; two = false; three = false }) first → P (flow_fields w.kind) (names w)
      → P (join_fields w.kind) (row_joins w)
  either P a b = go (leb first_view w.kind)
    where
      go : (v : Bool) → P (cond v (record { one = (flow_fields w.kind).one; two = false; three = false }) (flow_fields w.kind)) (λ x. cond v (first x) (names w x))
      go true = a
      go false = b

  first_has : (Q : ℕ → Type 0) → (is_flow (kind_at w.kind).one ≡ true → Q w.one) → (x : ℕ) → first x ≡ true → Q x
  first_has Q h x e = subst Q (eqb-true w.one x (and_right (is_flow (kind_at w.kind).one) _ e)) (h (and_left (is_flow (kind_at w.kind).one) _ e))

  pub joins_named : (x : ℕ) → row_joins w x ≡ true → names w x ≡ true
  unfolding names
  joins_named = either (λ s j. (x : ℕ) → j x ≡ true → names w x ≡ true) (λ x e. or_left _ _ e) (λ x e. e)

  -- a field that joins
  pub first_joined : (join_fields w.kind).one ≡ true → row_joins w w.one ≡ true
  first_joined = either (λ s j. s.one ≡ true → j w.one ≡ true) (λ e. and_both e (eq-eqb w.one w.one refl)) (first_named w)

  pub second_joined : (join_fields w.kind).two ≡ true → row_joins w w.two ≡ true
  second_joined = either (λ s j. s.two ≡ true → j w.two ≡ true) (λ e. absurd (false≢true e)) (second_named w)

  pub third_joined : (join_fields w.kind).three ≡ true → row_joins w w.three ≡ true
  third_joined = either (λ s j. s.three ≡ true → j w.three ≡ true) (λ e. absurd (false≢true e)) (third_named w)

  -- what holds of the flows in those fields holds of each flow that is joined
  pub fields_have : (Q : ℕ → Type 0) → ((join_fields w.kind).one ≡ true → Q w.one) → ((join_fields w.kind).two ≡ true → Q w.two)
      → ((join_fields w.kind).three ≡ true → Q w.three) → (x : ℕ) → row_joins w x ≡ true → Q x
  fields_have Q =
      either (λ s j. (s.one ≡ true → Q w.one) → (s.two ≡ true → Q w.two) → (s.three ≡ true → Q w.three) → (x : ℕ) → j x ≡ true → Q x)
      (λ a b c. first_has Q a) (λ a b c. words_have Q w (a, b, c))

-- what holds of the operands, beat and source of a row, of a view's first operand alone
abbrev pub JoinsHave : (ℕ → Type 0) → Row → Type 0
JoinsHave Q (view u a c w) = Q a
JoinsHave Q r = RowHas (Named Q) r

-- of the row that a kind makes: of the flow in its first field, where the kind is a view's
KindJoins : (ℕ → Type 0) → ℕ → ℕ → ℕ → ℕ → Kind → Type 0
KindJoins Q x y z i k = JoinsHave Q (k.make x y z) → cond (leb first_view i) (Q x) (RowHas (Named Q) (k.make x y z))

kinds_join : (Q : ℕ → Type 0) (x y z : ℕ) → Each (KindJoins Q x y z) 0 kinds
unfolding kinds KindJoins
kinds_join Q x y z = (same, (same, (same, (same, (same, (same, (same, (same, (same, (same, (same, (same, (same, (same, (same, (same, (same, (same, (same, tt)))))))))))))))))))
  where
    same : {A : Type 0} → A → A
    same h = h

-- what holds so holds of each flow with which the row's words join its result
pub joins_have : (Q : ℕ → Type 0) (m f : ℕ) (w : Words) (r : Row) → Made m f w r → JoinsHave Q r → (x : ℕ) → row_joins w x ≡ true → Q x
unfolding KindJoins
joins_have Q m f w r d h =
    let k : Kind = kind_at w.kind in
    let e = each_entry (KindJoins Q w.one w.two w.three) 0 kinds w.kind k (kinds_join Q w.one w.two w.three) (kind_there w.kind d.known) in
    let z : 0 + w.kind ≡ w.kind = omega arith in
    go (leb first_view w.kind) (subst (λ (i : ℕ). KindJoins Q w.one w.two w.three i k) z e (subst (JoinsHave Q) (sym d.row) h))
  where
    go : (v : Bool) → cond v (Q w.one) (RowHas (Named Q) (row_made w)) → (x : ℕ) → cond v (first w x) (names w x) ≡ true → Q x
    go true b = first_has w Q (λ e. b)
    go false b = names_have Q m f w r d (subst (RowHas (Named Q)) d.row b)

-- The flows that a row names are flows of its table; what holds of them holds of the row's operands, beat and source. Assumes nothing.
use mathlib.Core.Path.{◌≡◌, refl, sym, subst}
use Prim.Native.Nat.{ℕ, ◌≤◌, ◌<◌}
use native.Mathlib.Omega.{arith}
use mathlib.Core.Bool.{true, false, false≢true}
use borrow.Author.Tests.{eqb-true, eq-eqb}
use Rattle.table.specs.Rows.{Row, Field, operand, source, copies, period, ticks, value, unused, Kind, kinds, kind_at, Words}
use Rattle.table.specs.Tables.{Holds, WordsHave, RowHas, Named, Linked}
use Rattle.table.specs.Links.{is_flow, field_names, names}
use Rattle.table.proofs.Tests.{and_left, and_right, and_both, or_left, or_right, one_of_lem}
use Rattle.table.proofs.Lists.{Each, each_entry}
use Rattle.table.proofs.Entries.{kind_there}
use Rattle.table.proofs.Tables.{Made, fields_fit, row_has}

field_has : (Q : ℕ → Type 0) (t : Field) (y x : ℕ) → Named Q t y → field_names t y x ≡ true → Q x
field_has Q t y x h e = subst Q (eqb-true y x (and_right (is_flow t) _ e)) (h (and_left (is_flow t) _ e))

-- what holds of the flows in the fields holds of each flow that they name
pub words_have : (Q : ℕ → Type 0) (w : Words) → WordsHave (Named Q) (kind_at w.kind) w.one w.two w.three → (x : ℕ) → names w x ≡ true → Q x
unfolding names
words_have Q w h x e =
    let k : Kind = kind_at w.kind in
    one_of_lem (field_names k.one w.one x) _ (field_has Q k.one w.one x h.0)
    (one_of_lem (field_names k.two w.two x) _ (field_has Q k.two w.two x h.1) (field_has Q k.three w.three x h.2)) e

field_inside : (m f : ℕ) (t : Field) (y : ℕ) → f ≤ m → Holds m f t y → Named (λ x. x < m) t y
field_inside m f operand y l h e = omega (arith, h)
field_inside m f source y l h e = h
field_inside m f copies y l h e = absurd (false≢true e)
field_inside m f period y l h e = absurd (false≢true e)
field_inside m f ticks y l h e = absurd (false≢true e)
field_inside m f value y l h e = absurd (false≢true e)
field_inside m f unused y l h e = absurd (false≢true e)

pub names_inside : (m f : ℕ) (w : Words) (r : Row) → f ≤ m → Made m f w r → (x : ℕ) → names w x ≡ true → x < m
names_inside m f w r l d =
    let k : Kind = kind_at w.kind in
    let h = fields_fit m f w r d in
    words_have (λ x. x < m) w
    (field_inside m f k.one w.one l h.0, field_inside m f k.two w.two l h.1, field_inside m f k.three w.three l h.2)

-- a field that holds a flow names it
field_named : (t : Field) (y : ℕ) → is_flow t ≡ true → field_names t y y ≡ true
field_named t y e = and_both e (eq-eqb y y refl)

module _ (w : Words) where
  abbrev k : Kind
  k = kind_at w.kind

  pub first_named : is_flow k.one ≡ true → names w w.one ≡ true
  unfolding names
  first_named e = or_left _ _ (field_named k.one w.one e)

  pub second_named : is_flow k.two ≡ true → names w w.two ≡ true
  unfolding names
  second_named e = or_right (field_names k.one w.one w.two) _ (or_left _ _ (field_named k.two w.two e))

  pub third_named : is_flow k.three ≡ true → names w w.three ≡ true
  unfolding names
  third_named e = or_right (field_names k.one w.one w.three) _ (or_right (field_names k.two w.two w.three) _ (field_named k.three w.three e))

  -- what holds of each flow that the words name
  module _ (Q : ℕ → Type 0) (m f : ℕ) (r : Row) (d : Made m f w r) (h : (x : ℕ) → names w x ≡ true → Q x) where
    pub words_linked : WordsHave (Linked Q m f) k w.one w.two w.three
    words_linked =
        let p = fields_fit m f w r d in
        ((p.0, λ e. h w.one (first_named e)), (p.1, λ e. h w.two (second_named e)), (p.2, λ e. h w.three (third_named e)))

    pub linked : RowHas (Linked Q m f) r
    linked = row_has (Linked Q m f) m f w r d words_linked

-- what holds of the operands, beat and source of the row that a kind makes holds of the flows that the words name
Unmakes : (ℕ → Type 0) → ℕ → ℕ → ℕ → ℕ → Kind → Type 0
Unmakes Q x y z i k = RowHas (Named Q) (k.make x y z) → WordsHave (Named Q) k x y z

kinds_unmake : (Q : ℕ → Type 0) (x y z : ℕ) → Each (Unmakes Q x y z) 0 kinds
unfolding kinds Unmakes
kinds_unmake Q x y z = (first, (last, (first, (first, (first, (first, (first, (last, (all, (first, (first, (outer, (one, (first, (first, (all, (none, (all, (all, tt)))))))))))))))))))
  where
    no : {n : ℕ} → false ≡ true → Q n
    no e = absurd (false≢true e)

    first : {A B : Type 0} → A × B → A × B × (false ≡ true → Q z)
    first h = (h.0, h.1, no)

    last : {A B : Type 0} → A × B → (false ≡ true → Q x) × A × B
    last h = (no, h.0, h.1)

    outer : {A B : Type 0} → A × B → A × (false ≡ true → Q y) × B
    outer h = (h.0, no, h.1)

    one : {A B : Type 0} → A × B → A × (false ≡ true → Q y) × (false ≡ true → Q z)
    one h = (h.0, no, no)

    all : {A : Type 0} → A → A
    all h = h

    none : {A : Type 0} → A → (false ≡ true → Q x) × (false ≡ true → Q y) × (false ≡ true → Q z)
    none h = (no, no, no)

pub names_have : (Q : ℕ → Type 0) (m f : ℕ) (w : Words) (r : Row) → Made m f w r → RowHas (Named Q) r → (x : ℕ) → names w x ≡ true → Q x
unfolding Unmakes
names_have Q m f w r d h =
    words_have Q w
    (each_entry (Unmakes Q w.one w.two w.three) 0 kinds w.kind (kind_at w.kind) (kinds_unmake Q w.one w.two w.three) (kind_there w.kind d.known)
    (subst (RowHas (Named Q)) (sym d.row) h))

-- A row with its flows renumbered: of the four words, and of the row that they make. Assumes nothing.
use mathlib.Core.Path.{◌≡◌, refl, ◌∙◌, ap}
use Prim.Native.Nat.{ℕ}
use native.Mathlib.Omega.{arith}
use mathlib.Core.Bool.{Bool, true}
use borrow.Author.Tests.{lt-ltb, le-leb}
use Rattle.table.specs.Answers.{good}
use Rattle.table.specs.Rows.{Row, input, constant, combine, register, faster, slower, later, head, tail, sample, merge, unrated, view, on_register, Field}
use Rattle.table.specs.Rows.{operand, source, copies, period, ticks, value, unused, ranged, placed, Kind, kinds, kind_at, Words, each, fields_of, row_of, takes, row_by}
use Rattle.table.specs.Tables.{Linked}
use Rattle.table.specs.Links.{names}
use Rattle.table.proofs.Tests.{and_both}
use Rattle.table.proofs.Lists.{Each, each_entry}
use Rattle.table.proofs.Entries.{kind_there}
use Rattle.table.proofs.Tables.{Made, ranges, each_one, each_two, each_three}
use Rattle.table.proofs.Linked.{words_linked}
use Rattle.reach.specs.Sets.{Flows}
use Rattle.least.specs.Parts.{below, renumbered, renumbered_row}
use Rattle.least.proofs.Numbers.{below_lt, below_le}

abbrev pub renumber : (ℕ → ℕ) → Row → Row
renumber ρ (input n p) = input n p
renumber ρ (constant v n p) = constant v n p
renumber ρ (combine op a b) = combine op (ρ a) (ρ b)
renumber ρ (register v b a) = register v (ρ b) (ρ a)
renumber ρ (faster a k g) = faster (ρ a) k g
renumber ρ (slower a k) = slower (ρ a) k
renumber ρ (later a d) = later (ρ a) d
renumber ρ (head a v s) = head (ρ a) v s
renumber ρ (tail a) = tail (ρ a)
renumber ρ (sample u a c) = sample u (ρ a) (ρ c)
renumber ρ (merge c a b) = merge (ρ c) (ρ a) (ρ b)
renumber ρ unrated = unrated
renumber ρ (view u a c w) = view u (ρ a) (ρ c) w

-- a test of its beat and source
pub renumber_register : (ρ : ℕ → ℕ) (test : ℕ → ℕ → Bool) (r : Row) → on_register test (renumber ρ r) ≡ on_register (λ b a. test (ρ b) (ρ a)) r
renumber_register ρ test (input n p) = refl
renumber_register ρ test (constant v n p) = refl
renumber_register ρ test (combine op a b) = refl
renumber_register ρ test (register v b a) = refl
renumber_register ρ test (faster a k g) = refl
renumber_register ρ test (slower a k) = refl
renumber_register ρ test (later a d) = refl
renumber_register ρ test (head a v s) = refl
renumber_register ρ test (tail a) = refl
renumber_register ρ test (sample u a c) = refl
renumber_register ρ test (merge c a b) = refl
renumber_register ρ test unrated = refl
renumber_register ρ test (view u a c w) = refl

-- numbers that stay
pub renumber_same : (ρ : ℕ → ℕ) (r : Row) → ((a : ℕ) → ρ a ≡ a) → renumber ρ r ≡ r
renumber_same ρ (input n p) e = refl
renumber_same ρ (constant v n p) e = refl
renumber_same ρ (combine op a b) e = rw (e a, e b)
renumber_same ρ (register v b a) e = rw (e b, e a)
renumber_same ρ (faster a k g) e = rw (e a)
renumber_same ρ (slower a k) e = rw (e a)
renumber_same ρ (later a d) e = rw (e a)
renumber_same ρ (head a v s) e = rw (e a)
renumber_same ρ (tail a) e = rw (e a)
renumber_same ρ (sample u a c) e = rw (e a, e c)
renumber_same ρ (merge c a b) e = rw (e c, e a, e b)
renumber_same ρ unrated e = refl
renumber_same ρ (view u a c w) e = rw (e a, e c)

-- each kind makes of renumbered fields its row renumbered
module _ (s : Flows) where
  Moves : ℕ → ℕ → ℕ → ℕ → Kind → Type 0
  Moves x y z i k = k.make (renumbered s k.one x) (renumbered s k.two y) (renumbered s k.three z) ≡ renumber (below s) (k.make x y z)

  kinds_move : (x y z : ℕ) → Each (Moves x y z) 0 kinds
  unfolding kinds Moves
  kinds_move x y z = (refl, (refl, (refl, (refl, (refl, (refl, (refl, (refl, (refl, (refl, (refl, (refl, (refl, (refl, (refl, (refl, (refl, (refl, (refl, tt)))))))))))))))))))

  -- a field renumbered is in range, and in its place among the part's flows
  field_ranged : (t : Field) (x : ℕ) → ranged t x ≡ true → ranged t (renumbered s t x) ≡ true
  unfolding ranged
  field_ranged operand x e = and_both (le-leb 0 (below s x) (omega arith)) (le-leb (below s x) 63 (omega (arith, below_le s x, (ranges operand x e).upto)))
  field_ranged source x e = and_both (le-leb 0 (below s x) (omega arith)) (le-leb (below s x) 63 (omega (arith, below_le s x, (ranges source x e).upto)))
  field_ranged copies x e = e
  field_ranged period x e = e
  field_ranged ticks x e = e
  field_ranged value x e = e
  field_ranged unused x e = e

  abbrev pub Member : ℕ → Type 0
  Member a = s a ≡ true

  field_placed : (m f : ℕ) (t : Field) (x : ℕ) → Linked Member m f t x → placed (below s m) (below s f) t (renumbered s t x) ≡ true
  unfolding placed
  field_placed m f operand x l = lt-ltb (below s x) (below s f) (below_lt s x f l.0 (l.1 refl))
  field_placed m f source x l = lt-ltb (below s x) (below s m) (below_lt s x m l.0 (l.1 refl))
  field_placed m f copies x l = refl
  field_placed m f period x l = refl
  field_placed m f ticks x l = refl
  field_placed m f value x l = refl
  field_placed m f unused x l = refl

  -- the words of a row whose flows are all in the set, renumbered, are its row renumbered
  pub row_of_part : (m f : ℕ) (w : Words) (r : Row) → takes true w.kind ≡ true → Made m f w r → ((x : ℕ) → names w x ≡ true → s x ≡ true)
      → row_by true (below s m) (below s f) (renumbered_row s w) ≡ good (renumber (below s) r)
  unfolding row_of fields_of renumbered_row Moves
  row_of_part m f w r u d h =
      let k : Kind = kind_at w.kind in
      let l = words_linked w Member m f r d h in
      let v : Words = record { kind = w.kind; one = renumbered s k.one w.one; two = renumbered s k.two w.two; three = renumbered s k.three w.three } in
      let ok : each ranged k v ≡ true =
      and_both (field_ranged k.one w.one (each_one ranged k w d.in_range))
      (and_both (field_ranged k.two w.two (each_two ranged k w d.in_range)) (field_ranged k.three w.three (each_three ranged k w d.in_range))) in
      let put : each (placed (below s m) (below s f)) k v ≡ true =
      and_both (field_placed m f k.one w.one l.0) (and_both (field_placed m f k.two w.two l.1) (field_placed m f k.three w.three l.2)) in
      rw (u, kind_there w.kind d.known, ok, put)
      (ap good (each_entry (Moves w.one w.two w.three) 0 kinds w.kind k (kinds_move w.one w.two w.three) (kind_there w.kind d.known) ∙ ap (renumber (below s)) d.row))

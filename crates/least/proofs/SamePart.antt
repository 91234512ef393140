-- Sets with the same flows are one part: the same count, rows and flows. Assumes nothing.
use mathlib.Core.Path.{◌≡◌, refl}
use Prim.Native.Nat.{ℕ, ◌<◌}
use native.Mathlib.Omega.{arith}
use mathlib.Core.Bool.{true}
use mathlib.Core.List.{List}
use Rattle.table.specs.Rows.{Row, Field, Kind, kind_at, Words}
use Rattle.table.specs.Tables.{row_at}
use Rattle.table.specs.Plain.{row_words}
use Rattle.table.specs.Links.{is_flow, names}
use Rattle.table.proofs.Tests.{Tried, passed, failed, try}
use Rattle.table.proofs.Tables.{Table}
use Rattle.table.proofs.Linked.{names_inside, words_linked}
use Rattle.reach.specs.Sets.{Flows}
use Rattle.least.specs.Parts.{below, renumbered, renumbered_row, part_rows, part_flows, part_count}
use Rattle.least.proofs.Numbers.{below_same}
use Rattle.least.proofs.Chosen.{chosen_same}

module _ (s u : Flows) (m : ℕ) (h : (f : ℕ) → f < m → s f ≡ u f) where
  pub count_same : part_count m s ≡ part_count m u
  count_same = below_same s u m h

  pub flows_same : part_flows m s ≡ part_flows m u
  flows_same = chosen_same s u (λ f. f) (λ f. f) m h (λ f l e. refl)

-- a field renumbered alike
field_same : (s u : Flows) (t : Field) (x : ℕ) → (is_flow t ≡ true → below s x ≡ below u x) → renumbered s t x ≡ renumbered u t x
field_same s u t x h = go (try (is_flow t))
  where
    go : Tried (is_flow t) → renumbered s t x ≡ renumbered u t x
    go (passed e) = rw e (h e)
    go (failed e) = rw e

module _ (m : ℕ) (words : List ℕ) (rows : List Row) (t : Table m words rows) (s u : Flows) (h : (f : ℕ) → f < m → s f ≡ u f) where
  -- the flows that a row names get the same numbers
  numbers_same : (f : ℕ) → f < m → (x : ℕ) → names (row_words words f) x ≡ true → below s x ≡ below u x
  numbers_same f l x e = below_same s u x (λ g y. h g (omega (arith, names_inside m f (row_words words f) (row_at rows f) (omega arith) (t.row_at_lem f l) x e)))

  row_same : (f : ℕ) → f < m → renumbered_row s (row_words words f) ≡ renumbered_row u (row_words words f)
  unfolding renumbered_row
  row_same f l =
      let w : Words = row_words words f in
      let k : Kind = kind_at w.kind in
      let n = words_linked w (λ x. below s x ≡ below u x) m f (row_at rows f) (t.row_at_lem f l) (numbers_same f l) in
      let a : renumbered s k.one w.one ≡ renumbered u k.one w.one = field_same s u k.one w.one n.0.1 in
      let b : renumbered s k.two w.two ≡ renumbered u k.two w.two = field_same s u k.two w.two n.1.1 in
      let c : renumbered s k.three w.three ≡ renumbered u k.three w.three = field_same s u k.three w.three n.2.1 in
      λ i. record { kind = w.kind; one = a i; two = b i; three = c i }

  pub rows_same : part_rows m words s ≡ part_rows m words u
  rows_same = chosen_same s u (λ f. renumbered_row s (row_words words f)) (λ f. renumbered_row u (row_words words f)) m h (λ f l e. row_same f l)

-- The check of a part gives its flows the clocks that they have in the plan, or refuses the flow that it refuses there. Assumes nothing.
use mathlib.Core.Path.{◌≡◌, refl, sym, ◌∙◌, ap}
use Prim.Native.Nat.{ℕ, ◌≤◌, ◌<◌}
use native.Mathlib.Omega.{arith}
use mathlib.Core.Bool.{true}
use mathlib.Core.List.{List}
use Rattle.table.specs.declared.refusal.Refusal.{Refusal}
use Rattle.table.specs.Answers.{good, refused}
use Rattle.table.specs.Rows.{Row, tail}
use Rattle.table.specs.Tables.{row_at}
use Rattle.table.specs.Plain.{table_of, joined}
use Rattle.table.proofs.Tests.{good_inj, then_good}
use Rattle.table.proofs.Tables.{Table, table_made}
use Rattle.checker.specs.Clocks.{Clock}
use Rattle.checker.specs.Rules.{clock_of, clock_at, clocks_of}
use Rattle.checker.specs.Answers.{clocks_for}
use Rattle.reach.specs.Sets.{Flows}
use Rattle.least.specs.Parts.{Part, below, part_count, part_rows}
use Rattle.least.specs.PartChecks.{move_clock, move_result, part_clocks, checked_part, PartChecks}
use Rattle.least.proofs.Numbers.{below_lt}
use Rattle.least.proofs.Chosen.{chosen_at, chosen_same, every_flow}
use Rattle.least.proofs.Renumbering.{renumber}
use Rattle.least.proofs.Outcomes.{inner_accepting, inner_refusing}
use Rattle.least.proofs.Carried.{moved_rows, row_moved, all_inside}
use Rattle.least.proofs.PartTables.{table_of_part, refusing_part, accepting_part, whole_refusing, whole_accepting}
use Rattle.least.proofs.LeastParts.{named_differs, one_closure}

row : (m : ℕ) (words : List ℕ) (s : Flows) (rows rows' : List Row) → table_of m words ≡ good rows → Part m words s
    → table_of (part_count m s) (joined (part_rows m words s)) ≡ good rows' → (clk clk' : ℕ → Clock) (f : ℕ) → f < m → s f ≡ true
    → ((a : ℕ) → a < f → s a ≡ true → clock_of clk a (row_at rows a) ≡ good (clk a)) → ((a : ℕ) → a < f → s a ≡ true → clk' (below s a) ≡ move_clock (below s) (clk a))
    → clock_of clk' (below s f) (row_at rows' (below s f)) ≡ move_result (below s) (clock_of clk f (row_at rows f))
row m words s rows rows' e part e' clk clk' f l x known both =
    let t : Table m words rows = table_made m words rows e in
    let some : 1 ≤ part_count m s = omega (arith, below_lt s f m l x) in
    let same : rows' ≡ moved_rows m words rows t s part m = good_inj (sym e' ∙ table_of_part m words rows t s part some) in
    let here : row_at rows' (below s f) ≡ renumber (below s) (row_at rows f) =
    ap (λ (r : List Row). row_at r (below s f)) same ∙ chosen_at s (λ g. renumber (below s) (row_at rows g)) (tail 0) m f l x in
    ap (clock_of clk' (below s f)) here
    ∙ row_moved m words rows t s part clk f l x (all_inside m words rows t s part clk f (omega arith) known) clk' both

accepted : (m : ℕ) (words : List ℕ) (ks : List Clock) (s : Flows) → clocks_for m words ≡ good ks → Part m words s → 1 ≤ part_count m s → checked_part m words s ≡ good (part_clocks m s ks)
accepted m words ks s e part l =
    let x = then_good (table_of m words) clocks_of ks e in
    let t : Table m words x.0 = table_made m words x.0 x.1 in
    let a = whole_accepting m words x.0 t ks x.2 in
    accepting_part m words x.0 t s part l (inner_accepting m x.0 every_flow s (λ f y z. refl) a.0)
    ∙ ap good (chosen_same s s (λ f. move_clock (below s) (a.0.clk f)) (λ f. move_clock (below s) (clock_at ks f)) m (λ f y. refl) (λ f y z. ap (move_clock (below s)) (a.1 f y)))

turned_down : (m : ℕ) (words : List ℕ) (rows : List Row) (why : Refusal) (g : ℕ) (s : Flows) → table_of m words ≡ good rows → clocks_of rows ≡ refused why g
    → Part m words s → s g ≡ true → checked_part m words s ≡ refused why (below s g)
turned_down m words rows why g s e r part x =
    let t : Table m words rows = table_made m words rows e in
    refusing_part m words rows t s part why g (inner_refusing m rows every_flow s (λ f y z. refl) why g x (whole_refusing m words rows t why g r))

pub part_checks : PartChecks
part_checks = record {
  row = row;
  accepted = accepted;
  turned_down = turned_down;
  named = λ m words rows g e r. (named_differs m words rows (table_made m words rows e) g r).1;
  single = λ m words rows s e p. one_closure m words rows (table_made m words rows e) s p;
}

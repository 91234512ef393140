-- Table and check refuse for causes of their own: a clash is not among them. Assumes nothing.
use mathlib.Core.Path.{◌≡◌, refl, sym, subst}
use Prim.Native.Nat.{ℕ, suc, ◌+◌, ◌*◌}
use native.Mathlib.Omega.{arith}
use mathlib.Core.Bool.{Bool, true, false, ◌&&◌}
use mathlib.Core.List.{List, [], ◌∷◌, ◌++◌}
use mathlib.Core.Option.{Option, none, some}
use lib.ListN.{length, get_elem?}
use lib.Dec.{eqb}
use Rattle.table.specs.declared.refusal.Refusal.{Refusal}
use Rattle.table.specs.declared.refusal.Refusal.TheVariants.{BadCount, UnknownKind, OutOfRange, Misplaced, ClocksDiffer, BeyondLimits, NotPlain, BadView, Clash}
use Rattle.table.specs.Answers.{number}
use Rattle.table.specs.Answers.{Result, good, refused, unless, then}
use Rattle.table.specs.Rows.{Row, input, constant, combine, register, faster, slower, later, head, tail, sample, merge, unrated, view, bad_register}
use Rattle.table.specs.Rows.{Kind, Words, kinds, each, ranged, placed, known, kind_of, fields_of, row_of, takes, row_by, row_size}
use Rattle.table.specs.Plain.{split, rows_from, count_fits, table_by, table_of}
use Rattle.table.proofs.Tests.{not_good}
use Rattle.checker.specs.Clocks.{Clock, every, plain, same_clock, under}
use Rattle.checker.specs.Rules.{within_limits, limited, view_fits, clock_of, clock_at, clocks_from, sourced, source_fits, clocks_of}

-- another cause than a clash
abbrev pub Other : Refusal → Type 0
Other why = number why ≡ number Clash → ⊥

-- a result that is not refused, or for another cause
pub record OtherCause {A : Type 0} (r : Result A) : Type 0 where
  pub other : (why : Refusal) (f : ℕ) → r ≡ refused why f → Other why

refused_other : (A : Type 0) (why : Refusal) (f : ℕ) → Other why → OtherCause {A = A} (refused why f)
refused_other A why f o = record { other = λ u g e. let z : why ≡ u = cc in subst Other z o }

module _ {A : Type 0} where
  pub is_good : (a : A) → OtherCause (good a)
  is_good a = record { other = λ why f e. not_good (sym e) }

  pub unless_other : (b : Bool) (why : Refusal) (f : ℕ) (r : Result A) → Other why → OtherCause r → OtherCause (unless b why f r)
  unless_other true why f r o u = u
  unless_other false why f r o u = refused_other A why f o

  pub then_other : {B : Type 0} (r : Result A) (go : A → Result B) → OtherCause r → ((a : A) → OtherCause (go a)) → OtherCause (then r go)
  then_other (good a) go u h = h a
  then_other {B} (refused why f) go u h = refused_other B why f (u.other why f refl)

  known_other : (f : ℕ) (o : Option A) → OtherCause (known f o)
  known_other f none = refused_other A UnknownKind f (λ e. omega arith)
  known_other f (some a) = is_good a

fields_other : (m f : ℕ) (k : Kind) (w : Words) → OtherCause (fields_of m f k w)
unfolding fields_of
fields_other m f k w =
    let made : Row = k.make w.one w.two w.three in
    unless_other (each ranged k w) OutOfRange f (unless (each (placed m f) k w) Misplaced f (good made)) (λ e. omega arith)
    (unless_other (each (placed m f) k w) Misplaced f (good made) (λ e. omega arith) (is_good made))

row_other : (rated : Bool) (m f : ℕ) (w : Words) → OtherCause (row_by rated m f w)
unfolding row_of
row_other rated m f w =
    unless_other (takes rated w.kind) UnknownKind f (row_of m f w) (λ e. omega arith)
    (then_other (kind_of f w.kind) (λ k. fields_of m f k w) (known_other f (get_elem? kinds w.kind)) (λ k. fields_other m f k w))

rows_other : (rated : Bool) (m f : ℕ) (ws : List Words) → OtherCause (rows_from rated m f ws)
unfolding rows_from
rows_other rated m f [] = is_good []
rows_other rated m f (w ∷ ws) =
    then_other (row_by rated m f w) (λ r. then (rows_from rated m (suc f) ws) λ rs. good (r ∷ rs)) (row_other rated m f w)
    (λ r. then_other (rows_from rated m (suc f) ws) (λ rs. good (r ∷ rs)) (rows_other rated m (suc f) ws) (λ rs. is_good (r ∷ rs)))

pub table_other : (m : ℕ) (words : List ℕ) → OtherCause (table_of m words)
unfolding table_by
table_other m words =
    unless_other (count_fits m && eqb (length words) (row_size * m)) BadCount 0 (rows_from true m 0 (split m words)) (λ e. omega arith)
    (rows_other true m 0 (split m words))

-- the three tests of the rules: clocks that differ, one that is not plain, one beyond the limits
differing_other : (b : Bool) (f : ℕ) (r : Result Clock) → OtherCause r → OtherCause (unless b ClocksDiffer f r)
differing_other b f r u = unless_other b ClocksDiffer f r (λ e. omega arith) u

plain_other : (k : Clock) (f : ℕ) (r : Result Clock) → OtherCause r → OtherCause (unless (plain k) NotPlain f r)
plain_other k f r u = unless_other (plain k) NotPlain f r (λ e. omega arith) u

limited_other : (f : ℕ) (k : Clock) → OtherCause (limited f k)
limited_other f k = unless_other (within_limits k) BeyondLimits f (good k) (λ e. omega arith) (is_good k)

clock_other : (clk : ℕ → Clock) (f : ℕ) (row : Row) → OtherCause (clock_of clk f row)
unfolding clock_of
clock_other clk f (input n p) = is_good (every n p)
clock_other clk f (constant v n p) = is_good (every n p)
clock_other clk f (combine op a b) = differing_other (same_clock (clk a) (clk b)) f (good (clk a)) (is_good (clk a))
clock_other clk f (register v b a) = is_good (clk b)
clock_other clk f (faster a k g) =
    let made : Clock = every g (clk a).phase in
    plain_other (clk a) f (unless (eqb (clk a).period (k * g)) ClocksDiffer f (good made))
    (differing_other (eqb (clk a).period (k * g)) f (good made) (is_good made))
clock_other clk f (slower a k) =
    let made : Clock = every (k * (clk a).period) (clk a).phase in
    plain_other (clk a) f (limited f made) (limited_other f made)
clock_other clk f (later a d) =
    let made : Clock = every (clk a).period ((clk a).phase + d) in
    plain_other (clk a) f (limited f made) (limited_other f made)
clock_other clk f (head a v s) =
    let made : Clock = every (clk a).period s in
    plain_other (clk a) f (unless (eqb (clk a).phase (s + (clk a).period)) ClocksDiffer f (good made))
    (differing_other (eqb (clk a).phase (s + (clk a).period)) f (good made) (is_good made))
clock_other clk f (tail a) =
    let made : Clock = every (clk a).period ((clk a).phase + (clk a).period) in
    plain_other (clk a) f (limited f made) (limited_other f made)
clock_other clk f (sample u a c) =
    differing_other (same_clock (clk a) (clk c)) f (limited f (under (clk a) c u 0)) (limited_other f (under (clk a) c u 0))
clock_other clk f (merge c a b) =
    differing_other (same_clock (clk a) (under (clk c) c true 0) && same_clock (clk b) (under (clk c) c false 0)) f (good (clk c)) (is_good (clk c))
clock_other clk f unrated = refused_other Clock UnknownKind f (λ e. omega arith)
clock_other clk f (view u a c w) =
    let made : Clock = under (clk a) c u w in
    let fitting : Result Clock = unless (view_fits w (clk a) (clk c)) BadView f (good made) in
    unless_other (plain (clk a) && plain (clk c)) NotPlain f fitting (λ e. omega arith)
    (unless_other (view_fits w (clk a) (clk c)) BadView f (good made) (λ e. omega arith) (is_good made))

clocks_from_other : (ks : List Clock) (rows : List Row) → OtherCause (clocks_from ks rows)
unfolding clocks_from
clocks_from_other ks [] = is_good ks
clocks_from_other ks (r ∷ rs) =
    then_other (clock_of (clock_at ks) (length ks) r) (λ k. clocks_from (ks ++ (k ∷ [])) rs) (clock_other (clock_at ks) (length ks) r)
    (λ k. clocks_from_other (ks ++ (k ∷ [])) rs)

sourced_other : (ks : List Clock) (o : Option ℕ) → OtherCause (sourced ks o)
sourced_other ks none = is_good ks
sourced_other ks (some f) = refused_other (List Clock) ClocksDiffer f (λ e. omega arith)

pub clocks_other : (rows : List Row) → OtherCause (clocks_of rows)
unfolding clocks_of
clocks_other rows =
    then_other (clocks_from [] rows) (λ ks. sourced ks (bad_register (source_fits ks) 0 rows)) (clocks_from_other [] rows)
    (λ ks. sourced_other ks (bad_register (source_fits ks) 0 rows))

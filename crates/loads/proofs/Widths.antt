-- Nothing on the page of an accepted plan outgrows its column. Assumes nothing.
use mathlib.Core.Path.{◌≡◌, refl}
use Prim.Native.Nat.{ℕ, suc, ◌+◌, ◌*◌, ◌^◌, ◌≤◌, ◌<◌}
use native.Mathlib.Omega.{arith}
use mathlib.Core.List.{List, [], ◌∷◌, ◌++◌}
use lib.ListN.{length, length-append}
use Rattle.text.specs.Text.{line_feed, space, right}
use Rattle.text.proofs.Decimal.{digits_fit}
use Rattle.text.proofs.Columns.{right_length}
use Rattle.table.specs.Rows.{max_flows}
use Rattle.loads.specs.Loads.{max_load, Line, load, Among, here, there, field, line_text, lines_text, total, total_text, page_text, line_size}
use Rattle.loads.proofs.Lines.{Bounded}

-- a number in a column of k + 1 characters
column : (k n : ℕ) → n < 10 ^ suc k → length (right (suc k) n) ≡ suc k
column k n h = right_length (suc k) n (digits_fit k n h)

field_length : (k n : ℕ) → n < 10 ^ suc k → length (field (suc k) n) ≡ suc k + 1
field_length k n h = omega (arith, length-append (right (suc k) n) (space ∷ []), column k n h)

pub line_length : (l : Line) → Bounded l → load l ≤ max_load → length (line_text l) ≡ line_size
unfolding line_text
line_length l b h =
    let e : List ℕ = right 8 (load l) ++ (line_feed ∷ []) in
    let d : List ℕ = field 1 l.conditions ++ e in
    let c : List ℕ = field 5 l.phase ++ d in
    let a : List ℕ = field 5 l.period ++ c in
    omega (
      arith,
      length-append (field 2 l.flow) a,
      length-append (field 5 l.period) c,
      length-append (field 5 l.phase) d,
      length-append (field 1 l.conditions) e,
      length-append (right 8 (load l)) (line_feed ∷ []),
      field_length 1 l.flow (omega (arith, b.flow)),
      field_length 4 l.period (omega (arith, b.period)),
      field_length 4 l.phase (omega (arith, b.phase)),
      field_length 0 l.conditions (omega (arith, b.conditions)),
      column 7 (load l) (omega arith),
    )

lines_length : (ls : List Line) → ((l : Line) → Among l ls → length (line_text l) ≡ line_size) → length (lines_text ls) ≡ line_size * length ls
unfolding lines_text
lines_length [] h = refl
lines_length (l ∷ ls) h =
    omega (arith, length-append (line_text l) (lines_text ls), h l (here refl), lines_length ls (λ (x : Line). λ (i : Among x ls). h x (there i)))

pub total_length : (n : ℕ) → n ≤ max_flows * max_load → length (total_text n) ≡ line_size
unfolding total_text
total_length n h = omega (arith, length-append (right 20 n) (line_feed ∷ []), column 19 n (omega arith))

pub page_length : (ls : List Line) → ((l : Line) → Among l ls → length (line_text l) ≡ line_size) → length (total_text (total ls)) ≡ line_size
    → length (page_text ls) ≡ line_size * (length ls + 1)
unfolding page_text
page_length ls h t = omega (arith, length-append (lines_text ls) (total_text (total ls)), lines_length ls h)

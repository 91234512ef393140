-- Rows along which a rate stays as it is. Assumes nothing.
use mathlib.Core.Path.{◌≡◌, refl, sym, subst}
use Prim.Native.Nat.{ℕ, ◌≤◌, ◌<◌}
use native.Mathlib.Omega.{arith}
use mathlib.Core.Bool.{true, ◌&&◌}
use lib.Dec.{leb}
use borrow.Author.Tests.{leb-true}
use Rattle.table.specs.Rows.{Kind, kinds, kind_count, kind_at, Words}
use Rattle.table.proofs.Tests.{and_left, and_right}
use Rattle.table.proofs.Lists.{Each, each_entry}
use Rattle.table.proofs.Entries.{kind_there}
use Rattle.rates.specs.declared.steps.Rate.{Rate}
use Rattle.rates.specs.Private.Spread.{rise, fall, row_made}

-- none of kinds 8 to 12
abbrev pub Other : ℕ → Type 0
Other i = 8 ≤ i → 12 < i

-- along the row of such a kind the rate stays as it is, up and down
Stays : Rate → ℕ → ℕ → ℕ → ℕ → Kind → Type 0
Stays q x y z i k = Other i → (rise (k.make x y z) q ≡ q) × (fall (k.make x y z) q ≡ q)

kinds_stay : (q : Rate) (x y z : ℕ) → Each (Stays q x y z) 0 kinds
unfolding kinds Stays
kinds_stay q x y z =
    (same, (same, (same, (same, (same, (same, (same, (same, (no 8 refl, (no 9 refl, (no 10 refl, (no 11 refl, (no 12 refl, (same, (same, (same, (same, (same, (same, tt)))))))))))))))))))
  where
    same : {A : Type 0} → A → (q ≡ q) × (q ≡ q)
    same h = (refl, refl)

    no : {A : Type 0} (i : ℕ) → leb 8 i && leb i 12 ≡ true → Other i → A
    no i e h =
        let l : 12 < i = h (leb-true 8 i (and_left (leb 8 i) _ e)) in absurd (omega (arith, leb-true i 12 (and_right (leb 8 i) _ e)))

pub stays : (w : Words) (q : Rate) → w.kind < kind_count → Other w.kind → (q ≡ rise (row_made w) q) × (q ≡ fall (row_made w) q)
unfolding Stays
stays w q known other =
    let s = each_entry (Stays q w.one w.two w.three) 0 kinds w.kind (kind_at w.kind) (kinds_stay q w.one w.two w.three) (kind_there w.kind known)
    (subst Other (omega arith) other) in
    (sym s.0, sym s.1)

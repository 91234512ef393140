-- The clocks of a packed table that was accepted. Assumes nothing.
use mathlib.Core.Path.{◌≡◌, refl}
use Prim.Native.Nat.{ℕ, ◌*◌, ◌≤◌}
use native.Mathlib.Omega.{arith}
use mathlib.Core.List.{List}
use lib.ListN.{length}
use Rattle.table.specs.Answers.{good}
use Rattle.table.specs.Rows.{max_flows}
use Rattle.table.specs.Plain.{joined}
use Rattle.checker.specs.Rules.{AllWithin}
use Rattle.checker.specs.Clocks.{Clock}
use Rattle.checker.specs.Answers.{clock_size}
use Rattle.checker.proofs.Bounds.{checked_within}
use Rattle.packed_check.specs.Checked.{checked_in}
use Rattle.packed_check.proofs.Joined.{checked_good}
use Rattle.lister.specs.Listing.{checked}

pub checked_in_all : (bs : List ℕ) → checked_in bs (clock_size * max_flows) ≡ checked bs
unfolding checked
checked_in_all bs = refl

pub checked_clocks : (bs : List ℕ) (ks : List Clock) → checked bs ≡ good ks → (length ks ≤ max_flows) × AllWithin ks
unfolding checked
checked_clocks bs ks e =
    let x = checked_good bs (clock_size * max_flows) ks e in
    let w = checked_within (length x.0) (joined x.0) (clock_size * max_flows) ks x.2 in
    (omega (arith, w.0, w.1), w.2)

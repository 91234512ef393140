-- The closures, flow by flow, in the buffer that they were written into. Assumes nothing.
use mathlib.Core.Path.{◌≡◌}
use Prim.Native.Nat.{ℕ, ◌<◌}
use mathlib.Core.List.{List}
use lib.ListN.{length, get_or}
use Rattle.table.specs.Answers.{over}
use Rattle.table.proofs.PlainRows.{per_length, per_entry, per_over}
use Rattle.reach.specs.Sets.{set_of}
use Rattle.reach.specs.Reach.{closure, sets_of}

module _ (m : ℕ) (words : List ℕ) where
  pub sets_length : (n : ℕ) → length (sets_of m words n) ≡ n
  sets_length = per_length (λ f. set_of (closure m words f) m)

  pub sets_entry : (f : ℕ) → f < m → get_or (sets_of m words m) f 0 ≡ set_of (closure m words f) m
  sets_entry f l = per_entry (λ f. set_of (closure m words f) m) 0 m f l

  -- its entries, before what is left
  pub over_entry : (old : List ℕ) (f : ℕ) → f < m → get_or (over (sets_of m words m) old) f 0 ≡ set_of (closure m words f) m
  over_entry old f l = per_over (λ f. set_of (closure m words f) m) old m f l

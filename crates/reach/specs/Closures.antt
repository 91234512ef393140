-- What the sets are that the call leaves: flow f's has exactly the flows to which f leads. Proved in proofs/Closures.
use Rattle.std.specs.Prelude.{◌≡◌, ℕ, ◌<◌, true, List, length, get_or}
use Rattle.reach.specs.Sets.{has}
use Rattle.reach.specs.Reach.{named, Leads, reach_answer, sets_after}

pub record Closures : Type 0 where
  pub leads :
      (m : ℕ) (words old : List ℕ) → (reach_answer m words (length old)).number ≡ 0
      → (f g : ℕ) → f < m → has (get_or (sets_after m words old) f 0) g ≡ true → (g < m) × Leads (named words) f g
  pub led :
      (m : ℕ) (words old : List ℕ) → (reach_answer m words (length old)).number ≡ 0
      → (f g : ℕ) → f < m → Leads (named words) f g → has (get_or (sets_after m words old) f 0) g ≡ true

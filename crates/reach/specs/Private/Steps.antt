-- The steps of the closure over sets that are numbers.
use Rattle.std.specs.Prelude.{◌≡◌, ℕ, ◌<◌, true, cond, List, length, get_or}
use Rattle.std.specs.Int.Bits.{bit_or}
use Rattle.table.specs.Answers.{good}
use Rattle.table.specs.Rows.{Words, Kind, kind_at}
use Rattle.table.specs.Plain.{table_of, rows_in}
use Rattle.table.specs.Links.{is_flow}
use Rattle.reach.specs.Sets.{set_of, has, with_flow}
use Rattle.reach.specs.Reach.{named, through}

-- the words are a table of n flows
abbrev pub IsTable : ℕ → List ℕ → Type 0
IsTable n words = table_of n words ≡ good (rows_in (table_of n words))

-- flow f, and the flows that its row names
unfoldable pub named_set : ℕ → Words → ℕ
named_set f w =
    let k : Kind = kind_at w.kind in
    with_flow (with_flow (with_flow (with_flow 0 true f) (is_flow k.one) w.one) (is_flow k.two) w.two) (is_flow k.three) w.three

-- the set x, and y with it where flow k is in x
abbrev pub absorbed : ℕ → ℕ → ℕ → ℕ
absorbed x y k = cond (has x k) (bit_or x y) x

-- the sets of n flows are those to which they lead through flows below k
abbrev pub Reached : List ℕ → ℕ → ℕ → List ℕ → Type 0
Reached words n k sets = (f : ℕ) → f < n → get_or sets f 0 ≡ set_of (through (named words) k f) n

-- the sets, each joined with that of flow k where it has k
abbrev pub Swept : ℕ → List ℕ → List ℕ → Type 0
Swept k old new = (f : ℕ) → f < length old → get_or new f 0 ≡ absorbed (get_or old f 0) (get_or old k 0) k

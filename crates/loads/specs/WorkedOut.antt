-- A page worked out. Proved in proofs/WorkedOut.
use Rattle.std.specs.Prelude.{◌≡◌, ℕ, ◌*◌, List, [], ◌∷◌, ◌++◌, replicate}
use Rattle.loads.specs.Loads.{line_size, page_after}

-- ` 0    16     0 0       62` and a line feed
abbrev pub first_line : List ℕ
first_line = 32 ∷ 48 ∷ 32 ∷ 32 ∷ 32 ∷ 32 ∷ 49 ∷ 54 ∷ 32 ∷ 32 ∷ 32 ∷ 32 ∷ 32 ∷ 48 ∷ 32 ∷ 48 ∷ 32 ∷ 32 ∷ 32 ∷ 32 ∷ 32 ∷ 32 ∷ 32 ∷ 54 ∷ 50 ∷ 10 ∷ []

-- ` 1    16     0 0      188`
abbrev pub second_line : List ℕ
second_line = 32 ∷ 49 ∷ 32 ∷ 32 ∷ 32 ∷ 32 ∷ 49 ∷ 54 ∷ 32 ∷ 32 ∷ 32 ∷ 32 ∷ 32 ∷ 48 ∷ 32 ∷ 48 ∷ 32 ∷ 32 ∷ 32 ∷ 32 ∷ 32 ∷ 32 ∷ 49 ∷ 56 ∷ 56 ∷ 10 ∷ []

-- `total                 250`
abbrev pub last_line : List ℕ
last_line = 116 ∷ 111 ∷ 116 ∷ 97 ∷ 108 ∷ 32 ∷ 32 ∷ 32 ∷ 32 ∷ 32 ∷ 32 ∷ 32 ∷ 32 ∷ 32 ∷ 32 ∷ 32 ∷ 32 ∷ 32 ∷ 32 ∷ 32 ∷ 32 ∷ 32 ∷ 50 ∷ 53 ∷ 48 ∷ 10 ∷ []

-- Inputs (16, 0) and (16, 0) with worst times 1 and 3: 62.5 prints 62, 187.5 prints 188, and the total is theirs.
abbrev pub WorkedOut : Type 0
WorkedOut =
    page_after 2 (0 ∷ 16 ∷ 0 ∷ 0 ∷ 0 ∷ 16 ∷ 0 ∷ 0 ∷ []) (1 ∷ 3 ∷ []) (replicate (3 * line_size) 0) ≡ first_line ++ (second_line ++ last_line)

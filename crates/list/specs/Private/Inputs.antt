-- What reading the input promises.
use Rattle.std.specs.Prelude.{ℕ, ◌≤◌, List, length}

-- the bytes that were read fit into the buffer
abbrev pub Within : ℕ → List ℕ → Type 0
Within size buffer = size ≤ length buffer

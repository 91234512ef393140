-- One flow's column of a trace: its clock is plain, so it has a value at phase plus whole periods. Those ticks, and the words at them.
use Rattle.std.specs.Prelude.{ℕ, zero, suc, ◌+◌, Bool, true, false, cond, ◌&&◌, List, [], ◌∷◌, ◌++◌, get_or, eqb}
use Rattle.table.specs.Bits.{bit}
use Rattle.semantics.specs.Cells.{on_grid}

-- how many of the first ticks are phase p plus whole periods n
unfoldable pub points : ℕ → ℕ → ℕ → ℕ
points n p zero = 0
points n p (suc t) = points n p t + bit (on_grid n p t)

-- a column's words at those ticks, in time order
unfoldable pub picked : ℕ → ℕ → (ℕ → ℕ) → ℕ → List ℕ
picked n p column zero = []
picked n p column (suc t) = picked n p column t ++ cond (on_grid n p t) (column t ∷ []) []

-- the column that has these words at those ticks, and 0 at the others
abbrev pub spread : ℕ → ℕ → List ℕ → ℕ → ℕ
spread n p words t = cond (on_grid n p t) (get_or words (points n p t) 0) 0

-- a cell's mark and value are as the clock says: present, or absent with the value 0
abbrev pub cell_fits : Bool → ℕ → ℕ → Bool
cell_fits true mark value = eqb mark 1
cell_fits false mark value = eqb mark 0 && eqb value 0

-- so are those of a column's first ticks
unfoldable pub column_fits : ℕ → ℕ → (ℕ → ℕ) → (ℕ → ℕ) → ℕ → Bool
column_fits n p marks values zero = true
column_fits n p marks values (suc t) = column_fits n p marks values t && cell_fits (on_grid n p t) (marks t) (values t)

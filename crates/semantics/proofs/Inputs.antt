-- Inputs are the rows of kind 0: one computed test over the whole list of kinds. Assumes nothing.
use mathlib.Core.Path.{◌≡◌, refl}
use Prim.Native.Nat.{ℕ, ◌<◌}
use mathlib.Core.Bool.{true, beq}
use lib.Dec.{eqb}
use Rattle.table.specs.Rows.{kinds, kind_count, decode}
use Rattle.table.proofs.Tests.{beq_true}
use Rattle.table.proofs.Entries.{every, kind_test}
use Rattle.semantics.specs.Runs.{is_input}

inputs_told : (x y z : ℕ) → every (λ n k. beq (is_input (k.make x y z)) (eqb n 0)) 0 kinds ≡ true
unfolding kinds
inputs_told x y z = refl

pub input_kind : (n x y z : ℕ) → n < kind_count → is_input (decode n x y z) ≡ eqb n 0
input_kind n x y z l = beq_true (is_input (decode n x y z)) (eqb n 0) (kind_test (λ n k. beq (is_input (k.make x y z)) (eqb n 0)) (inputs_told x y z) n l)

use mathlib.Core.Path.{◌∙◌, ap}
use Prim.Native.Nat.{ℕ, ◌+◌, ◌-◌, ◌*◌, ◌/◌, ◌%◌, ◌^◌}
use Rattle.table.proofs.Windows.{window_field}
use Rattle.table.proofs.bits.number_at.Goals as goal

pub returns : goal.returns
returns c =
    let a = c.args in
    let n = c.byte_count-end.result in
    c.low_bits.ensures ∙ ap (λ (x : ℕ). x / 2 ^ (8 * n - (a.at + a.w)) % 2 ^ a.w) c.window_to.ensures
    ∙ window_field a.s.now a.at a.w n c.requires.1 c.requires.2 c.byte_count-end.ensures

use mathlib.Core.Path.{◌∙◌, ap}
use Prim.Native.Nat.{ℕ, ◌*◌, ◌/◌, ◌%◌, ◌^◌}
use mathlib.Core.List.{List}
use lib.ListN.{get_or}
use Rattle.table.proofs.Entries.{field_is}
use Rattle.table.proofs.rows.Fields.at.Goals as goal

pub returns : goal.returns
returns c =
    let a = c.args in
    let p = c.requires in
    ap (λ (l : List ℕ). get_or l a.kind 0 / 2 ^ (3 * a.place) % 8) a.self.now.by_kind ∙ field_is a.kind p.0 a.place p.1

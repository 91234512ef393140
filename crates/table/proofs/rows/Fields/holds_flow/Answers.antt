use mathlib.Core.Path.{◌∙◌, ap}
use Prim.Native.Nat.{ℕ}
use lib.Dec.{leb}
use lib.ListN.{get_or}
use Rattle.table.specs.Rows.{unused, kind_at}
use Rattle.table.specs.Private.Codes.{field_list}
use Rattle.table.proofs.Entries.{flow_code}
use Rattle.table.proofs.rows.Fields.holds_flow.Goals as goal

pub returns : goal.returns
returns c =
    let a = c.args in
    ap (λ (n : ℕ). leb n 1) c.at.ensures ∙ flow_code (get_or (field_list (kind_at a.kind)) a.place unused)

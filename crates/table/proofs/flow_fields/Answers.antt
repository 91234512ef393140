use mathlib.Core.Path.{sym, ap}
use Rattle.table.specs.declared.FlowFields.{FlowFields}
use Rattle.table.specs.Rows.{Kind}
use Rattle.table.specs.Links.{is_flow}
use Rattle.table.proofs.Entries.{kind_none}
use Rattle.table.proofs.flow_fields.Goals as goal

pub returns-then-kind-ge-KINDS : goal.returns-then-kind-ge-KINDS
returns-then-kind-ge-KINDS c =
    sym (ap (λ (k : Kind). let r : FlowFields = record { one = is_flow k.one; two = is_flow k.two; three = is_flow k.three } in r)
    (kind_none c.args.kind c.if-kind-ge-KINDS.true))

pub returns : goal.returns
returns c =
    λ i.
    record {
      one = c.holds_flow.ensures i;
      two = c.holds_flow-2.ensures i;
      three = c.holds_flow-3.ensures i;
    }

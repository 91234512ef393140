use Rattle.table.specs.Rows.{kind_at}
use Rattle.table.proofs.Entries.{field_lt}
use Rattle.table.proofs.rows.Layout.all_within.Goals as goal

pub within-requires : goal.within-requires
within-requires c =
    field_lt (kind_at c.args.r.kind).one c.at.result c.at.ensures

pub within-requires-then-within : goal.within-requires-then-within
within-requires-then-within c =
    field_lt (kind_at c.args.r.kind).two c.at-then-within.result c.at-then-within.ensures

pub within-requires-then-within-2 : goal.within-requires-then-within-2
within-requires-then-within-2 c =
    field_lt (kind_at c.args.r.kind).three c.at-then-within-2.result c.at-then-within-2.ensures

pub returns-then-within-2 : goal.returns-then-within-2
returns-then-within-2 c =
    let k = kind_at c.args.r.kind in
    rw (
      ← c.within.ensures k.one c.at.ensures,
      c.if-within.true,
      ← c.within-then-within.ensures k.two c.at-then-within.ensures,
      c.if-within-2.true,
      ← c.within-then-within-2.ensures k.three c.at-then-within-2.ensures,
    )

pub returns-else-within-2 : goal.returns-else-within-2
returns-else-within-2 c =
    let k = kind_at c.args.r.kind in
    rw (
      ← c.within.ensures k.one c.at.ensures,
      c.if-within.true,
      ← c.within-then-within.ensures k.two c.at-then-within.ensures,
      c.if-within-2.false,
    )

pub returns-else-within : goal.returns-else-within
returns-else-within c =
    let k = kind_at c.args.r.kind in
    rw (← c.within.ensures k.one c.at.ensures, c.if-within.false)

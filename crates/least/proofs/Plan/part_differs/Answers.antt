use mathlib.Core.Path.{◌∙◌, sym, ap, ap₂}
use mathlib.Core.List.{List}
use Prim.Native.Nat.{ℕ, ◌*◌}
use native.Mathlib.Omega.{arith}
use lib.ListN.{take}
use Rattle.std.proofs.lemmas.List.{length-take-le}
use Rattle.table.specs.Rows.{row_size}
use Rattle.reach.specs.Sets.{has}
use Rattle.least.specs.Answers.{differing}
use Rattle.least.proofs.Numbers.{below_le}
use Rattle.least.proofs.Choosing.{part_rows_at}
use Rattle.least.proofs.Plan.part_differs.Goals as goal

pub slice_bounds-differs-end-2 : goal.slice_bounds-differs-end-2
slice_bounds-differs-end-2 c =
    let s = c.args.self in
    let p = c.store_rows-count in
    sym (length-take-le (row_size * p.result) p.new.rows (omega (arith, p.ensures.value, p.auto.rows, below_le (has c.args.set) s.count, s.few, c.requires)))

pub returns : goal.returns
returns c =
    let s = c.args.self in
    let p = c.store_rows-count in
    c.differs.ensures
    ∙ ap₂ differing p.ensures.value
    (ap (λ (l : List ℕ). take (row_size * p.result) l) p.ensures.rows_after ∙ part_rows_at s.count s.words.now (has c.args.set) p.result c.args.rows.now p.ensures.value)

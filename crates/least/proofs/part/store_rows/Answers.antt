use mathlib.Core.Path.{sym, ◌∙◌, ap}
use native.Mathlib.Omega.{arith}
use Rattle.reach.specs.Sets.{has}
use Rattle.least.specs.Parts.{renumbered_row}
use Rattle.least.proofs.Numbers.{below_lt}
use Rattle.least.proofs.Storing.{rows_none, rows_in, rows_out}
use Rattle.least.proofs.part.store_rows.Goals as goal
use Rattle.least.proofs.part.store_rows.Goals.{then-has, else-has}

pub loop-f-init : goal.loop-f-init
loop-f-init c = rows_none _ _ _

pub loop-f-preserved : goal.loop-f-preserved
loop-f-preserved c =
    let a = c.args in
    let l = c.loop-f in
    elim c.if-has.branch [
      | then-has w ↦ (let e = sym w.if-has.ensures in
          rw (w.rows-is, w.at-is, w.put_record.ensures)
          (rows_in a.words.now (has a.set) a.rows.now l.at l.f l.rows l.invariant e
          (omega (arith, l.invariant.count, l.auto.rows, c.requires.room, below_lt (has a.set) l.f a.n c.loop-f-test.true e))
          _ (w.renumbered.ensures ∙ ap (renumbered_row (has a.set)) w.record_at-row.ensures)))
      | else-has w ↦ rw (w.rows-is, w.at-is) (rows_out a.words.now (has a.set) a.rows.now l.at l.f l.rows l.invariant (sym w.if-has.ensures))
    ]

use mathlib.Core.Path.{◌≡◌, ◌∙◌, subst}
use mathlib.Core.List.{List, ◌++◌}
use Prim.Native.Nat.{ℕ}
use native.Mathlib.Omega.{arith}
use lib.ListN.{length}
use Rattle.table.specs.Plain.{split, words_of}
use Rattle.table.specs.Bits.{to_bits}
use Rattle.table.specs.Packed.{count_width, rows_bits}
use Rattle.table.specs.Lengths.{row_length}
use Rattle.table.specs.Private.Laid.{Put}
use Rattle.table.proofs.BitLaws.{length_to_bits}
use Rattle.table.proofs.Lengths.{row_le}
use Rattle.table.proofs.Puts.{put_put, put_first}
use Rattle.table.proofs.WriteLaws.{putting_starts, putting_ends, known_row, room_row, putting_goes}
use Rattle.table.proofs.pack.put_table.Goals as goal

pub put-cursor-requires : goal.put-cursor-requires
put-cursor-requires c =
    let p = c.requires in
    let n = c.new.ensures in
    (omega (arith, n), omega arith, omega arith, omega (arith, p.0.few), omega (arith, n, p.1))

pub loop-row-init : goal.loop-row-init
loop-row-init c =
    let a = c.args in
    let p = c.put-cursor in
    let e : p.result.at ≡ count_width = omega (arith, p.ensures.0, c.new.ensures) in (
      omega (arith, e),
      p.auto.out,
      putting_starts a.count p.result.at (length a.out.now) a.words.now p.new.out c.requires.0.accepted e,
    )

pub length_of-requires : goal.length_of-requires
length_of-requires c =
    let r = c.record_at-r in
    known_row c.loop-row.invariant.2 (words_of r.result) r.ensures c.loop-row-test.true

pub number_of-requires : goal.number_of-requires
number_of-requires c =
    let r = c.record_at-r in
    known_row c.loop-row.invariant.2 (words_of r.result) r.ensures c.loop-row-test.true

pub put-cursor-requires-in-loop-row : goal.put-cursor-requires-in-loop-row
unfolding row_length
put-cursor-requires-in-loop-row c =
    let l = c.loop-row in
    let r = c.record_at-r in
    let w = words_of r.result in
    let k = known_row l.invariant.2 w r.ensures c.loop-row-test.true in
    let p = c.requires in
    let e = c.length_of.ensures in
    let room = room_row l.invariant.2 w r.ensures c.loop-row-test.true p.1 in (
      omega (arith, l.invariant.0, p.0.few, c.loop-row-test.true),
      omega (arith, e),
      omega (arith, e, row_le w.kind k),
      rw e c.number_of.ensures.0,
      omega (arith, e, room, l.invariant.1),
    )

pub loop-row-preserved : goal.loop-row-preserved
loop-row-preserved c =
    let l = c.loop-row in
    let r = c.record_at-r in
    let w = words_of r.result in
    let k = known_row l.invariant.2 w r.ensures c.loop-row-test.true in
    let n = c.number_of in
    let t = c.put-cursor-in-loop-row in
    let e = c.length_of.ensures in
    let size = length c.args.out.now in (
      omega (arith, l.invariant.0, t.ensures.0, e, row_le w.kind k),
      t.auto.out ∙ l.invariant.1,
      putting_goes l.invariant.2 w r.ensures c.loop-row-test.true t.result.at n.result t.new.out (omega (arith, t.ensures.0, e)) n.ensures.1
          (subst (λ (x : ℕ). Put size l.cursor.at (to_bits x n.result) l.out t.new.out) e (rw l.invariant.1 at t.ensures.1)),
    )

pub returns : goal.returns
returns c =
    let a = c.args in
    let l = c.loop-row in
    let q = c.put-cursor in
    let f = to_bits count_width a.count in
    let g = rows_bits (split a.count a.words.now) in
    let mid : List ℕ = q.new.out in
    let size = length a.out.now in
    put_first size (f ++ g) a.out.now l.out
    (put_put size 0 count_width f g a.out.now mid l.out (omega (arith, length_to_bits count_width a.count))
    (subst (λ (x : ℕ). Put size x f a.out.now mid) c.new.ensures (rw c.from.ensures at q.ensures.1))
    (putting_ends l.invariant.2 (omega arith)))

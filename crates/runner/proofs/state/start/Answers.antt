use Rattle.runner.proofs.Starting.{bit_low, starts, goes_on, ends}
use Rattle.runner.proofs.Decoded.{bit_is}
use Rattle.runner.proofs.Tabled.{plain_table, words_read, row_of_lem}
use Rattle.std.proofs.Common.{ℕ, ◌+◌, eqb, length-set, ap, ◌∙◌, arith}
use Rattle.table.specs.Rows.{Words}
use Rattle.runner.proofs.state.start.Goals as goal

pub loop-f-init : goal.loop-f-init
loop-f-init c = (c.told-state, omega arith, starts c.args.n c.args.words.now _ (plain_table c.args.n c.args.words.now c.requires) c.args.state.now)

pub first_words-requires : goal.first_words-requires
first_words-requires c =
    let words = c.args.words.now in
    let u = words_read words c.loop-f.f _ c.record_at-row.ensures in
    omega (arith, ap (λ (w : Words). w.kind) u, (row_of_lem _ _ _ (plain_table c.args.n words c.requires) c.loop-f.f c.loop-f-test.true).known)

pub loop-f-preserved : goal.loop-f-preserved
loop-f-preserved c =
    let a = c.args in
    let l = c.loop-f in
    let b = c.from-j.ensures ∙ bit_is (eqb c.record_at-row.result.kind 0) in (
      length-set l.state l.f _ ∙ l.invariant.0,
      omega (arith, b, bit_low (eqb c.record_at-row.result.kind 0)),
      goes_on a.n a.words.now _ (plain_table a.n a.words.now c.requires) l.state _ _ l.f l.j _ c.loop-f-test.true
          (omega (arith, l.invariant.0)) l.invariant.2 c.record_at-row.ensures c.first_words.ensures (ap (λ (i : ℕ). l.j + i) b),
    )

pub returns : goal.returns
returns c =
    let a = c.args in
    let l = c.loop-f in
    ends a.n a.words.now _ (plain_table a.n a.words.now c.requires) l.state l.f l.j c.loop-f-test.false (omega arith) l.invariant.2

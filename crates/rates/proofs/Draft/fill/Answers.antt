use native.Mathlib.Omega.{arith}
use Rattle.table.specs.Rows.{max_flows}
use Rattle.rates.proofs.Passing.{starting_none}
use Rattle.rates.proofs.Answering.{said_unjoined, said}
use Rattle.rates.proofs.Draft.fill.Goals as goal

pub spread-requires : goal.spread-requires
spread-requires c = starting_none c.args.self.count c.args.self.words.now max_flows

pub returns-in-Some : goal.returns-in-Some
returns-in-Some c =
    let d = c.args.self in
    rw c.at.ensures (said_unjoined d.count d.words.now c.args.filled.now _ d.is_draft _ c.spread.ensures c.in-Some.f c.in-Some.ensures)

pub returns-then-not-accepted : goal.returns-then-not-accepted
returns-then-not-accepted c =
    let d = c.args.self in
    let said = said d.count d.words.now c.args.filled.now _ d.is_draft _ c.spread.ensures c.in_default.ensures _ _ c.store.ensures _ c.accepted.ensures in
    rw c.at-then-not-accepted.ensures (said.none c.if-not-accepted.true)

pub returns-then-filled-size : goal.returns-then-filled-size
returns-then-filled-size c =
    let d = c.args.self in
    let said = said d.count d.words.now c.args.filled.now _ d.is_draft _ c.spread.ensures c.in_default.ensures _ _ c.store.ensures _ c.accepted.ensures in
    rw c.at-then-filled-size.ensures (said.room c.if-not-accepted.false c.if-filled-size.true)

pub returns : goal.returns
returns c =
    let d = c.args.self in
    let said = said d.count d.words.now c.args.filled.now _ d.is_draft _ c.spread.ensures c.in_default.ensures _ _ c.store.ensures _ c.accepted.ensures in
    said.whole c.if-not-accepted.false (omega arith) c.if-filled-size.false _ c.copy.ensures

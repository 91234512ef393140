use Rattle.runner.proofs.Lists.{listed_more}
use Rattle.runner.specs.Private.Ready.{numbers, one_of}
use Rattle.std.proofs.Common.{refl, arith}
use Rattle.runner.proofs.state.listed.Goals as goal

pub loop-f-init : goal.loop-f-init
unfolding numbers
loop-f-init c = (omega arith, refl)

pub loop-f-preserved : goal.loop-f-preserved
loop-f-preserved c =
    let l = c.loop-f in
    let row = c.listed_with-found in
    let m = listed_more (one_of c.args.kind c.args.from) l.f c.args.words.now l.list row.new.list l.found row.result (omega arith) l.invariant.1 row.ensures.0 row.ensures.1 in
    (omega (arith, m.1), m.0)

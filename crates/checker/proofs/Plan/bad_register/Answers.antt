use mathlib.Core.Path.{sym, ◌∙◌}
use Rattle.table.proofs.Tables.{table_made}
use Rattle.checker.proofs.Checks.{bad_next, bad_here, bad_none}
use Rattle.checker.proofs.Plan.bad_register.Goals as goal

pub returns-then-not-source_fits : goal.returns-then-not-source_fits
returns-then-not-source_fits c =
    let a = c.args.self in
    let t = table_made a.count a.words.now _ a.passed in
    let e = sym c.source_fits.ensures ∙ c.if-not-source_fits.true in
    sym (bad_here a.count a.words.now _ t c.args.kept.now c.loop-f.f c.loop-f-test.true e) ∙ c.loop-f.invariant

pub loop-f-preserved : goal.loop-f-preserved
loop-f-preserved c =
    let a = c.args.self in
    let t = table_made a.count a.words.now _ a.passed in
    let e = sym c.source_fits.ensures ∙ c.if-not-source_fits.false in
    sym (bad_next a.count a.words.now _ t c.args.kept.now c.loop-f.f c.loop-f-test.true e) ∙ c.loop-f.invariant

pub returns : goal.returns
returns c =
    let a = c.args.self in
    let t = table_made a.count a.words.now _ a.passed in
    sym (bad_none a.count a.words.now _ t c.args.kept.now c.loop-f.f c.loop-f-test.false) ∙ c.loop-f.invariant

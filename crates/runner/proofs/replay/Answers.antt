use Rattle.runner.proofs.Called.{turned_down, within, ended, stopped}
use Rattle.runner.proofs.Running.{starts}
use Rattle.runner.proofs.Placing.{whole_fits}
use Rattle.runner.proofs.Recalling.{everywhere}
use Rattle.runner.proofs.Plans.{examined}
use Rattle.runner.proofs.Starting.{inputs_all}
use Rattle.runner.proofs.Tabled.{plain_table}
use Rattle.runner.specs.Private.Ready.{rows_in}
use Rattle.std.proofs.Common.{◌^◌, length, refl, arith}
use Rattle.std.proofs.lemmas.Result.{err_from_is_err_and}
use Rattle.runner.proofs.replay.Goals as goal

pub limits-requires : goal.limits-requires
limits-requires c =
    let a = c.args in
    let T = plain_table a.n a.words.now c.requires in
    omega (arith, c.start-inputs.ensures.0, inputs_all (rows_in a.n a.words.now), T.size, T.few)

pub returns-in_err-limits : goal.returns-in_err-limits
returns-in_err-limits c =
    let a = c.args in
    let p = err_from_is_err_and c.from_residual.result c.from_residual.ensures.1 in
    rw (p.1, p.2)
    (turned_down a.n a.words.now a.log.now a.ticks a.marks.now a.values.now c.requires _ (rw c.start-inputs.ensures.0 at c.in_err-limits.ensures))

pub invariant_of-plan : goal.invariant_of-plan
invariant_of-plan c =
    let a = c.args in
    record {
      few = c.requires.few;
      size = c.requires.size;
      examined = examined a.n a.words.now c.requires;
      registers_listed = c.listed-register_count.ensures.1;
      counted = c.start-inputs.ensures.0;
      masked = refl;
    }

pub run_ticks-requires : goal.run_ticks-requires
run_ticks-requires c =
    let a = c.args in
    let limited = rw c.start-inputs.ensures.0 at c.in_ok-limits.ensures in
    let W = within a.n a.words.now a.log.now a.ticks a.marks.now a.values.now c.requires _ limited in (
      whole_fits (2 ^ 32) a.n a.ticks (length a.marks.now) (omega arith) W.3,
      whole_fits (2 ^ 32) a.n a.ticks (length a.values.now) (omega arith) W.4,
      omega arith,
      omega (arith, W.1),
      everywhere (2 ^ 32) _ a.log.now (omega arith),
      c.listed-backward_count.ensures.1,
    )

pub overflow_cast-result : goal.overflow_cast-result
overflow_cast-result c =
    let a = c.args in
    let limited = rw c.start-inputs.ensures.0 at c.in_ok-limits.ensures in
    let clash =
    stopped a.n a.words.now a.log.now a.ticks a.marks.now a.values.now c.requires _ limited (2 ^ 32) (omega arith)
    _ _ _ _ (c.run_ticks.ensures a.marks.now a.values.now (starts c.start-inputs.ensures.1)) _ _ c.in-Err.is in
    omega (arith, clash.1, (plain_table a.n a.words.now c.requires).few)

pub returns-in-Err : goal.returns-in-Err
returns-in-Err c =
    let a = c.args in
    let limited = rw c.start-inputs.ensures.0 at c.in_ok-limits.ensures in
    (stopped a.n a.words.now a.log.now a.ticks a.marks.now a.values.now c.requires _ limited (2 ^ 32) (omega arith)
    _ _ _ _ (c.run_ticks.ensures a.marks.now a.values.now (starts c.start-inputs.ensures.1)) _ _ c.in-Err.is).0

pub returns-in-Ok : goal.returns-in-Ok
returns-in-Ok c =
    let a = c.args in
    let limited = rw c.start-inputs.ensures.0 at c.in_ok-limits.ensures in
    (ended a.n a.words.now a.log.now a.ticks a.marks.now a.values.now c.requires _ limited (2 ^ 32) (omega arith)
    _ _ _ _ (c.run_ticks.ensures a.marks.now a.values.now (starts c.start-inputs.ensures.1)) c.in-Ok.is)

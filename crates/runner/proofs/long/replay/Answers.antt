use Rattle.runner.proofs.LongCalled.{no_tick_clashes, close_by, turned_down, within, short_tallies, ran}
use Rattle.runner.proofs.Tallying.{tallied_cleared}
use Rattle.runner.proofs.Plans.{examined}
use Rattle.runner.proofs.Starting.{inputs_all}
use Rattle.runner.proofs.Tabled.{plain_table}
use Rattle.runner.specs.Private.Ready.{rows_in}
use Rattle.semantics.proofs.Tallies.{tallied_same}
use Rattle.semantics.specs.Windows.{tally_size}
use Rattle.std.proofs.lemmas.List.{length-take-le}
use Rattle.std.proofs.Common.{Err, ℕ, ◌*◌, replicate, refl, ap, ◌∙◌, arith}
use Rattle.table.specs.Answers.{parts}
use Rattle.table.specs.declared.refusal.Refused.{Refused}
use Rattle.std.proofs.lemmas.Result.{err_from_is_err_and}
use Rattle.runner.proofs.long.replay.Goals as goal

pub limits-requires : goal.limits-requires
limits-requires c =
    let a = c.args in
    let T = plain_table a.n a.words.now c.requires.0 in
    omega (arith, c.start-inputs.ensures.0, inputs_all (rows_in a.n a.words.now), T.size, T.few)

pub returns-in_err-limits : goal.returns-in_err-limits
returns-in_err-limits c =
    let a = c.args in
    let p = err_from_is_err_and c.from_residual.result c.from_residual.ensures.1 in
    rw (p.1, p.2)
    (turned_down a.n a.words.now a.log.now a.ticks a.marks.now a.values.now a.tallies.now c.requires.0 c.requires.1 _
    (rw c.start-inputs.ensures.0 at c.in_err-limits.ensures))

pub returns-then-tallies-n : goal.returns-then-tallies-n
returns-then-tallies-n c =
    let a = c.args in
    let limited = rw c.start-inputs.ensures.0 at c.in_ok-limits.ensures in
    short_tallies a.n a.words.now a.log.now a.ticks a.marks.now a.values.now a.tallies.now c.requires.0 c.requires.1 _ limited _ (ap (λ (e : Refused). parts (Err e)) c.at.ensures) c.if-tallies-n.true

pub invariant_of-plan : goal.invariant_of-plan
invariant_of-plan c =
    let a = c.args in
    record {
      few = c.requires.0.few;
      size = c.requires.0.size;
      examined = examined a.n a.words.now c.requires.0;
      registers_listed = c.listed-register_count.ensures.1;
      counted = c.start-inputs.ensures.0;
      masked = refl;
    }

pub long_ticks-requires : goal.long_ticks-requires
long_ticks-requires c =
    let a = c.args in
    let limited = rw c.start-inputs.ensures.0 at c.in_ok-limits.ensures in
    let pre = c.requires in
    let room = c.if-tallies-n.false in
    let T =
    tallied_cleared a.n a.tallies.now c.fill.new.self
    (c.fill.ensures.after (λ y e. e) ∙ ap (λ (k : ℕ). replicate k 0) (length-take-le (tally_size * a.n) a.tallies.now room)) room in
    let W = within a.n a.words.now a.log.now a.ticks a.marks.now a.values.now a.tallies.now pre.0 pre.1 _ limited in (
      refl,
      W.3,
      W.4,
      omega (arith, W.1),
      c.start-inputs.ensures.1,
      omega (arith, T.size),
      tallied_same a.n a.tallies.now _ T,
      close_by a.n a.words.now a.log.now pre.0 pre.1,
      no_tick_clashes a.n a.words.now a.log.now pre.0 pre.1,
      c.listed-backward_count.ensures.1,
    )

pub returns : goal.returns
returns c =
    let a = c.args in
    let limited = rw c.start-inputs.ensures.0 at c.in_ok-limits.ensures in
    let room = c.if-tallies-n.false in
    let T =
    tallied_cleared a.n a.tallies.now c.fill.new.self
    (c.fill.ensures.after (λ y e. e) ∙ ap (λ (k : ℕ). replicate k 0) (length-take-le (tally_size * a.n) a.tallies.now room)) room in
    (ran a.n a.words.now a.log.now a.ticks a.marks.now a.values.now a.tallies.now c.requires.0 c.requires.1 _ limited _ _ _ _ c.if-tallies-n.false T c.long_ticks.ensures)

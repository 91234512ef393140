use Prim.Native.Nat.{◌*◌}
use native.Mathlib.Nat.{zero-add}
use Rattle.std.proofs.lemmas.List.{take_rest}
use Rattle.text.proofs.Writing.{none, joined}
use Rattle.checker.specs.Answers.{clock_size}
use Rattle.lister.specs.Private.Words.{clocks_text}
use Rattle.lister.proofs.Lines.{clocks_more}
use Rattle.lister.proofs.put_lines.Goals as goal

pub loop-f-init : goal.loop-f-init
unfolding clocks_text
loop-f-init c = none _

pub loop-f-preserved : goal.loop-f-preserved
loop-f-preserved c =
    let f = c.loop-f.f in
    let ws = c.args.words.now in
    rw (clocks_more f 0 ws, zero-add f) (joined c.loop-f.invariant (rw (take_rest ws (clock_size * f)) at c.put_line.ensures))

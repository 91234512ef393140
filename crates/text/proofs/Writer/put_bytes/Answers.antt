use Rattle.std.proofs.lemmas.List.{take_more}
use Rattle.text.proofs.Writing.{joined}
use Rattle.text.proofs.Writer.put_bytes.Goals as goal

pub loop-byte-preserved : goal.loop-byte-preserved
loop-byte-preserved c =
    let l = c.loop-byte in
    rw (take_more c.args.bytes.now l.byte-index 0 c.loop-byte-test.true) (joined l.invariant c.put.ensures)

use Rattle.std.proofs.Common.{take}
use Rattle.text.specs.Writers.{Writes}
use Rattle.text.proofs.Writer.put_bytes.Given as goal

abbrev pub invariant-loop-byte : goal.invariant-loop-byte
invariant-loop-byte l = Writes (take l.byte-index l.bytes) l.initial.self l.self

use mathlib.Core.List.{map}
use lib.ListN.{take}
use Rattle.text.specs.Writers.{Writes}
use Rattle.loads.specs.Loads.{lines_text}
use Rattle.loads.specs.Private.Words.{line_by}
use Rattle.loads.proofs.Flows.put_lines.Given as goal

abbrev pub invariant-loop-key : goal.invariant-loop-key
invariant-loop-key l = Writes (lines_text (map (line_by l.self) (take l.key-index l.keys))) l.initial.writer l.writer

use Rattle.std.proofs.lemmas.List.{map_more}
use Rattle.text.proofs.Writing.{none, joined}
use mathlib.Core.List.{map}
use lib.ListN.{take, get_or}
use Rattle.loads.specs.Loads.{lines_text}
use Rattle.loads.specs.Private.Words.{line_by}
use Rattle.loads.proofs.Sums.{text_push}
use Rattle.loads.proofs.Flows.put_lines.Goals as goal

pub loop-key-init : goal.loop-key-init
unfolding lines_text
loop-key-init c = none _

pub loop-key-preserved : goal.loop-key-preserved
loop-key-preserved c =
    let i = c.loop-key.key-index in
    let ks = c.args.keys.now in
    let by = line_by c.args.self.now in
    rw (map_more by ks i 0 c.loop-key-test.true, text_push (map by (take i ks)) (by (get_or ks i 0))) (joined c.loop-key.invariant c.put_line.ensures)

use mathlib.Core.Bool.{false}
use mathlib.Core.Path.{sym, ◌∙◌}
use Rattle.table.proofs.Records.{rows_counted}
use Rattle.table.proofs.examine_draft.Goals as goal

pub returns : goal.returns
returns c = let a = c.args in sym (rows_counted false a.count a.words.now ∙ c.in_ok-survey.ensures.0)

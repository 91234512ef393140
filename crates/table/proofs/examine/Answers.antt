use mathlib.Core.Bool.{true}
use mathlib.Core.Path.{sym, ◌∙◌}
use Rattle.table.proofs.Records.{rows_counted}
use Rattle.table.proofs.examine.Goals as goal

pub returns : goal.returns
returns c = let a = c.args in sym (rows_counted true a.count a.words.now ∙ c.in_ok-survey.ensures.0)

use mathlib.Core.Path.{refl, sym, ◌∙◌}
use lib.Dec.{leb}
use borrow.Author.Tests.{leb-true, eq-eqb, ne_eqb, not-true, not-false}
use Rattle.table.specs.Rows.{max_flows}
use Rattle.table.specs.Plain.{table_by}
use Rattle.table.proofs.Tests.{and_right}
use Rattle.table.proofs.plain.survey.Goals as goal

pub returns-then-not-count_fits : goal.returns-then-not-count_fits
unfolding table_by
returns-then-not-count_fits c = rw (c.at.ensures, sym c.count_fits.ensures ∙ not-true c.count_fits.result c.if-not-count_fits.true-raw) (refl, tt)

pub returns-then-words-count : goal.returns-then-words-count
unfolding table_by
returns-then-words-count c = rw (c.at-then-words-count.ensures, sym c.count_fits.ensures ∙ not-false c.count_fits.result c.if-not-count_fits.false-raw, ne_eqb _ _ c.if-words-count.true) (refl, tt)

pub survey_rows-requires : goal.survey_rows-requires
survey_rows-requires c =
    let a = c.args in (
      leb-true a.count max_flows (and_right (leb 1 a.count) _
          (sym c.count_fits.ensures ∙ not-false c.count_fits.result c.if-not-count_fits.false-raw)),
      c.if-words-count.false,
    )

pub returns : goal.returns
unfolding table_by
returns c = rw (sym c.count_fits.ensures ∙ not-false c.count_fits.result c.if-not-count_fits.false-raw, eq-eqb _ _ c.if-words-count.false) c.survey_rows.ensures

use mathlib.Core.Path.{refl, sym, ◌∙◌}
use borrow.Author.Rules.{rules}
use Rattle.text.proofs.Writing.{joined, begun}
use Rattle.loads.specs.Loads.{page_text}
use Rattle.loads.specs.Private.Words.{line_at, lines_of}
use Rattle.loads.proofs.Orders.{sorted_total}
use Rattle.loads.proofs.Sorting.{lines_by_keys}
use Rattle.loads.proofs.Flows.put_page.Goals as goal

pub returns : goal.returns
unfolding page_text
returns c =
    let flows = c.args.self.now in
    let total-is = c.sum.ensures ∙ sym (sorted_total (lines_of flows)) in
    let lines = rw (c.sort_keys.ensures, lines_by_keys (line_at flows) (λ g. refl) flows.count flows.few) at c.put_lines.ensures in
    let w = joined lines (rw total-is at c.put_total.ensures) in
    let v = begun c.new-writer.ensures.first c.new-writer.ensures.unchanged w in
    search rules

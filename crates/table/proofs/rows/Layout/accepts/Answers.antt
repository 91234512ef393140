use mathlib.Core.List.{List}
use mathlib.Core.Path.{sym, ◌∙◌, ap}
use Prim.Native.Nat.{ℕ}
use lib.Dec.{eqb}
use Rattle.table.specs.Rows.{each, kind_at}
use Rattle.table.specs.Plain.{words_of}
use Rattle.table.specs.Private.Codes.{bounded}
use Rattle.table.proofs.Accepting.{unknown, by_bounds}
use borrow.Author.Tests.{not-true, not-false}
use Rattle.table.proofs.rows.Layout.accepts.Goals as goal

pub returns-then-not-known : goal.returns-then-not-known
returns-then-not-known c =
    λ rated m f s hm hf e.
    let a = c.args in
    sym (ap (λ (n : ℕ). eqb n 0) (unknown rated m f (words_of a.r) (sym (c.known.ensures.0 rated s) ∙ not-true _ c.if-not-known.true-raw)))

pub all_within-requires : goal.all_within-requires
all_within-requires c = c.known.ensures.1 (not-false _ c.if-not-known.false-raw)

pub returns : goal.returns
returns c =
    λ rated m f s hm hf e.
    let a = c.args in
    let w = words_of a.r in
    c.all_within.ensures ∙ ap (λ (l : List ℕ). each (bounded l) (kind_at a.r.kind) w) e
    ∙ by_bounds rated m f w (sym (c.known.ensures.0 rated s) ∙ not-false _ c.if-not-known.false-raw) hm hf

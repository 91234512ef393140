use mathlib.Core.Path.{sym, ◌∙◌}
use Rattle.table.specs.Rows.{ranged, kind_at, max_flows}
use Rattle.table.specs.Plain.{words_of}
use Rattle.table.specs.Private.Codes.{bounds, bounded}
use Rattle.table.proofs.Accepting.{unknown, kind_is, out, must_be_off, each_same, bounded_range}
use borrow.Author.Tests.{not-true, not-false}
use Rattle.table.proofs.rows.Layout.why.Goals as goal

pub returns-then-not-known : goal.returns-then-not-known
returns-then-not-known c =
    λ m f n.
    let a = c.args in
    sym (unknown a.rated m f (words_of a.r) (sym (c.known.ensures.0 a.rated c.barred_kind.ensures) ∙ not-true _ c.if-not-known.true-raw))

pub all_within-requires : goal.all_within-requires
all_within-requires c =
    let a = c.args in
    kind_is a.rated 0 0 (words_of a.r) (sym (c.known.ensures.0 a.rated c.barred_kind.ensures) ∙ not-false _ c.if-not-known.false-raw)

pub returns-then-all_within : goal.returns-then-all_within
returns-then-all_within c =
    let a = c.args in
    let w = words_of a.r in
    let e = sym (each_same (bounded (bounds max_flows max_flows)) ranged bounded_range (kind_at w.kind) w) ∙ sym c.all_within.ensures ∙ c.if-all_within.true in
    λ m f n. must_be_off a.rated m f w (sym (c.known.ensures.0 a.rated c.barred_kind.ensures) ∙ not-false _ c.if-not-known.false-raw) e n

pub returns : goal.returns
returns c =
    let a = c.args in
    let w = words_of a.r in
    let e = sym (each_same (bounded (bounds max_flows max_flows)) ranged bounded_range (kind_at w.kind) w) ∙ sym c.all_within.ensures ∙ c.if-all_within.false in
    λ m f n. sym (out a.rated m f w (sym (c.known.ensures.0 a.rated c.barred_kind.ensures) ∙ not-false _ c.if-not-known.false-raw) e)

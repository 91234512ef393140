use mathlib.Core.Path.{sym, ap, ◌∙◌}
use Prim.Native.Nat.{◌-◌}
use Rattle.table.specs.Places.{taking_parts}
use Rattle.table.proofs.ReadLaws.{not_ended, fill_there, ended}
use Rattle.table.proofs.unpack.ends.Goals as goal

pub returns-then-byte_count-s : goal.returns-then-byte_count-s
returns-then-byte_count-s c =
    let a = c.args in
    not_ended a.s.now a.at c.requires.1 (rw c.byte_count.ensures at c.if-byte_count-s.true)

pub returns-in_default : goal.returns-in_default
returns-in_default c =
    let a = c.args in
    let p = c.requires in
    absurd
    (fill_there a.s.now a.at (c.up.result - a.at) p.0 p.1 (rw c.byte_count.ensures at c.if-byte_count-s.false)
    (ap (λ n. n - a.at) c.up.ensures) (sym c.take.ensures ∙ ap taking_parts c.in_default.is))

pub returns : goal.returns
returns c =
    let a = c.args in
    let p = c.requires in
    ended a.s.now a.at (c.up.result - a.at) p.0 p.1 (rw c.byte_count.ensures at c.if-byte_count-s.false)
    (ap (λ n. n - a.at) c.up.ensures) c.in-Some.fill c.in-Some.field-0-1 (sym c.take.ensures ∙ ap taking_parts c.in-Some.is)

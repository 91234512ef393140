use mathlib.Core.Path.{refl, ◌∙◌}
use Prim.Native.Nat.{ℕ, ◌*◌}
use native.Mathlib.Omega.{arith}
use mathlib.Core.Bool.{not}
use lib.ListN.{get_or}
use Rattle.std.proofs.Common.{rules, tests}
use Rattle.std.proofs.lemmas.Iterator.{YieldsList-from_range}
use Rattle.std.proofs.lemmas.Iterator.Search.{all_from_yields_List}
use Rattle.table.specs.Rows.{row_size}
use Rattle.calendar.specs.Calendar.{samples}
use Rattle.archive.proofs.Calls.{free_is}
use Rattle.archive.proofs.free.Goals as goal

pub returns : goal.returns
returns c =
    let a = c.args in
    all_from_yields_List (λ (f : ℕ). not (samples (get_or a.words.now (row_size * f) 0))) _ _ _ c.all.ensures.ran
    (YieldsList-from_range 0 a.m a.m refl (omega arith)) (λ x b q k. search (rules, tests))
    ∙ free_is a.words.now a.m

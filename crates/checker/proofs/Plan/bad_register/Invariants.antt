use mathlib.Core.Path.{◌≡◌}
use lib.ListN.{drop}
use Rattle.table.specs.Rows.{bad_register}
use Rattle.checker.specs.Private.Kept.{fits_in, rows_of}
use Rattle.checker.proofs.Plan.bad_register.Given as goal

abbrev pub invariant-loop-f : goal.invariant-loop-f
invariant-loop-f l =
    bad_register (fits_in l.kept) l.f (drop l.f (rows_of l.self.count l.self.words.now)) ≡ bad_register (fits_in l.kept) 0 (rows_of l.self.count l.self.words.now)

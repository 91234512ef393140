use mathlib.Core.Path.{◌∙◌, ap}
use mathlib.Core.List.{List}
use Prim.Native.Nat.{ℕ}
use lib.ListN.{take, replicate}
use Rattle.table.specs.Rows.{max_flows}
use Rattle.least.proofs.Choosing.{sets_given, sets_found, chosen_there}
use Rattle.least.proofs.Plan.least_set.Goals as goal

pub unwrap-requires : goal.unwrap-requires
unwrap-requires c =
    let s = c.args.self in sets_given s.count s.words.now (replicate max_flows 0) _ c.reach.result s.is_table s.few c.reach.ensures.answered

pub choose-requires : goal.choose-requires
choose-requires c =
    let s = c.args.self in
    ap (λ (x : List ℕ). take s.count x) c.reach.ensures.stored ∙ sets_found s.count s.words.now (replicate max_flows 0) _ s.is_table s.few

pub unwrap-requires-2 : goal.unwrap-requires-2
unwrap-requires-2 c =
    let s = c.args.self in chosen_there s.count s.words.now _ c.choose.result s.is_table c.requires c.choose.ensures

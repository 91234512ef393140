-- What a plan has, from what its fields say. Assumes nothing.
use Rattle.std.proofs.Common.{◌≡◌, ℕ, ◌+◌, ◌*◌, ◌^◌, ◌<◌, ◌≤◌, true, eqb, List, sym, refl, subst, arith, eqb-true}
use Rattle.table.specs.Rows.{max_flows, max_field}
use Rattle.table.specs.Plain.{plain_answer}
use Rattle.table.proofs.Tests.{Tried, passed, failed, try}
use Rattle.table.proofs.Tables.{Table}
use Rattle.runner.specs.declared.plan.Plan.{Plan}
use Rattle.runner.specs.Long.{window_ticks}
use Rattle.runner.specs.Private.Ready.{Plain, numbers, is_register, looks_back}
use Rattle.runner.specs.Private.Placed.{Mask, window_width, is_mask}
use Rattle.runner.specs.Private.Plans.{plan_rows}
use Rattle.runner.proofs.Called.{accepted}
use Rattle.runner.proofs.Lists.{Listed, listed}
use Rattle.runner.proofs.Placing.{place_small}
use Rattle.runner.proofs.Starting.{inputs_all}
use Rattle.runner.proofs.Tabled.{plain_table}

mask_of : (mask : ℕ) → is_mask mask ≡ true → Mask mask × (max_field ≤ mask)
mask_of mask e = go (try (eqb (mask + 1) (2 ^ 32))) e
  where
    go : Tried (eqb (mask + 1) (2 ^ 32)) → is_mask mask ≡ true → Mask mask × (max_field ≤ mask)
    go (passed q) e = let m = eqb-true (mask + 1) (2 ^ 32) q in (record { width = 32; is = m }, omega (arith, m))
    go (failed q) e = let m = eqb-true (mask + 1) window_ticks (rw q at e) in (record { width = window_width; is = m }, omega (arith, m))

pub examined : (n : ℕ) (words : List ℕ) → Plain n words → (plain_answer n words).number ≡ 0
examined n words P = rw P.rows

module _ (p : Plan) where
  pub table : Table p.n p.words.now (plan_rows p)
  table = plain_table p.n p.words.now (accepted p.n p.words.now _ refl p.examined)

  pub mask : Mask p.mask
  mask = (mask_of p.mask p.masked).0

  pub wide : max_field ≤ p.mask
  wide = (mask_of p.mask p.masked).1

  pub registers : Listed is_register p.n p.words.now p.registers.now
  registers = subst (Listed is_register p.n p.words.now) (sym p.registers_listed) (listed is_register p.n p.words.now)

  pub backward : (list : List ℕ) → list ≡ numbers looks_back p.n p.words.now → Listed looks_back p.n p.words.now list
  backward list e = subst (Listed looks_back p.n p.words.now) (sym e) (listed looks_back p.n p.words.now)

  -- a place in the log is low
  pub logged : (t : ℕ) → t < 2 ^ 24 → t * p.inputs ≤ 2 ^ 24 * max_flows
  logged t l = place_small t p.inputs (2 ^ 24) (omega arith) (omega (arith, inputs_all (plan_rows p), table.size, table.few, p.counted))

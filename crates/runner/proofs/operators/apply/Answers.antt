use Rattle.std.proofs.Common.{◌≡◌, refl, arith, ◌∙◌}
use Rattle.table.specs.Rows.{add, subtract, less, equal, larger, kinds}
use Rattle.runner.proofs.Decoded.{op_is, bit_is}
use Rattle.runner.proofs.operators.apply.Goals as goal

pub returns-in-2 : goal.returns-in-2
unfolding kinds
returns-in-2 c = λ op e. rw (← op_is _ 2 add op c.in-2.is (λ a b z. refl) e)

pub returns-in-3 : goal.returns-in-3
unfolding kinds
returns-in-3 c = λ op e. rw (← op_is _ 3 subtract op c.in-3.is (λ a b z. refl) e) (omega arith)

pub returns-in-4 : goal.returns-in-4
unfolding kinds
returns-in-4 c = λ op e. rw (← op_is _ 4 less op c.in-4.is (λ a b z. refl) e) (c.from.ensures ∙ simp (c.below.ensures, bit_is))

pub returns-in-5 : goal.returns-in-5
unfolding kinds
returns-in-5 c = λ op e. rw (← op_is _ 5 equal op c.in-5.is (λ a b z. refl) e) (c.from-in-5.ensures ∙ bit_is _)

pub returns-in_default : goal.returns-in_default
unfolding kinds
returns-in_default c = let k : c.args.kind ≡ 6 = omega arith in λ op e. rw (← op_is _ 6 larger op k (λ a b z. refl) e) c.larger.ensures

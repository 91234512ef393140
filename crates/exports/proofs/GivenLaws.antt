-- An answer's parts, one by one, are those of an equal answer. Assumes nothing.
use mathlib.Core.Path.{◌≡◌, sym, subst}
use Prim.Native.Nat.{ℕ}
use Rattle.table.specs.declared.Answer.{Answer}
use Rattle.exports.specs.Parts.{Given, answer_of}

pub given_as : {a b : Answer} {n f t c : ℕ} → a ≡ b → Given a n f t c → Given b n f t c
given_as {n = n} {f = f} {t = t} {c = c} e g = subst (λ (x : Answer). Given x n f t c) e g

-- the parts are those of the answer
pub given_is : {a : Answer} {number flow tick count : ℕ} → Given a number flow tick count → a ≡ answer_of number flow tick count
given_is {a} g = λ i. record { number = sym g.number_is i; flow = sym g.flow_is i; tick = sym g.tick_is i; count = sym g.count_is i }

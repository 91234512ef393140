-- An answer's four parts, given out one by one: the number returned, the others through pointers.
use Rattle.std.specs.Prelude.{◌≡◌, ℕ}
use Rattle.table.specs.declared.Answer.{Answer}

pub record Given (a : Answer) (number flow tick count : ℕ) : Type 0 where
  pub number_is : number ≡ a.number
  pub flow_is : flow ≡ a.flow
  pub tick_is : tick ≡ a.tick
  pub count_is : count ≡ a.count

-- the answer that four parts are
abbrev pub answer_of : ℕ → ℕ → ℕ → ℕ → Answer
answer_of number flow tick count = record { number = number; flow = flow; tick = tick; count = count }

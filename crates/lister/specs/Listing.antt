-- The listing of a packed table, byte by byte.
use Rattle.std.specs.Prelude.{ℕ, suc, ◌+◌, ◌*◌, Bool, true, false, cond, List, [], ◌∷◌, ◌++◌, length, eqb, leb}
use Rattle.text.specs.Text.{line_feed, space, decimal}
use Rattle.table.specs.declared.Answer.{Answer}
use Rattle.table.specs.declared.refusal.Refusal.TheVariants.{NoRoom}
use Rattle.table.specs.Answers.{Result, good, refused, unless, number, answer, leaves}
use Rattle.table.specs.Rows.{max_flows}
use Rattle.checker.specs.Clocks.{Condition, Clock}
use Rattle.checker.specs.Rules.{max_conditions}
use Rattle.checker.specs.Answers.{clock_size}
use Rattle.packed_check.specs.Checked.{checked_in}

-- ASCII: plus, minus, at sign, c
abbrev pub plus : ℕ
plus = 43

abbrev pub minus : ℕ
minus = 45

abbrev pub at_sign : ℕ
at_sign = 64

abbrev pub letter_c : ℕ
letter_c = 99

-- `ok ` and `no `
abbrev pub okay : List ℕ
okay = 111 ∷ 107 ∷ space ∷ []

abbrev pub no : List ℕ
no = 110 ∷ 111 ∷ space ∷ []

-- a number and a space
abbrev pub field : ℕ → List ℕ
field n = decimal n ++ (space ∷ [])

abbrev pub sign : Bool → ℕ
sign true = plus
sign false = minus

-- a view period, as `@30`, and nothing where it is 0
unfoldable pub view_text : ℕ → List ℕ
view_text w = cond (eqb w 0) [] (at_sign ∷ decimal w)

-- a condition, as `c1+`, and `c1+@30` where it is viewed
unfoldable pub condition_text : Condition → List ℕ
condition_text c = letter_c ∷ (decimal c.flow ++ (sign c.truth ∷ view_text c.view))

unfoldable pub conditions_from : List Condition → List ℕ
conditions_from [] = []
conditions_from (c ∷ cs) = condition_text c ++ conditions_from cs

-- conditions in order, or a lone minus where there are none
abbrev pub conditions_text : List Condition → List ℕ
conditions_text [] = minus ∷ []
conditions_text (c ∷ cs) = conditions_from (c ∷ cs)

-- flow, period, phase, conditions
unfoldable pub line_text : ℕ → Clock → List ℕ
line_text f k = field f ++ (field k.period ++ (field k.phase ++ (conditions_text k.conditions ++ (line_feed ∷ []))))

-- a line for each flow, from number f on
unfoldable pub lines_from : ℕ → List Clock → List ℕ
lines_from f [] = []
lines_from f (k ∷ ks) = line_text f k ++ lines_from (suc f) ks

unfoldable pub refusal_text : ℕ → ℕ → List ℕ
refusal_text n f = no ++ (field n ++ (decimal f ++ (line_feed ∷ [])))

unfoldable pub ok_text : List Clock → List ℕ
ok_text ks = okay ++ (decimal (length ks) ++ (line_feed ∷ lines_from 0 ks))

abbrev pub result_text : Result (List Clock) → List ℕ
result_text (good ks) = ok_text ks
result_text (refused why f) = refusal_text (number why) f

-- what reading and then the check come to, with room for the clocks of any table
unfoldable pub checked : List ℕ → Result (List Clock)
checked packed = checked_in packed (clock_size * max_flows)

unfoldable pub listing_of : List ℕ → List ℕ
listing_of packed = result_text (checked packed)

-- Room for every listing: `ok 64` and its line feed, and a line for each flow. Of a clock's conditions only the first can be viewed, so a line has
-- no more bytes than `63 65535 65535 c10+@4095c11-c12+c13-` and its line feed: the longest period or phase, and the longest view period.
abbrev pub longest_time : ℕ
longest_time = 5

abbrev pub longest_view : ℕ
longest_view = 5

abbrev pub longest_line : ℕ
longest_line = 6 + 2 * longest_time + 4 * max_conditions + longest_view

abbrev pub longest : ℕ
longest = 6 + longest_line * max_flows

-- what the listing comes to where there is room for so many bytes
unfoldable pub listing : List ℕ → ℕ → Result (List ℕ)
listing packed room = unless (leb longest room) NoRoom 0 (good (listing_of packed))

-- What it answers, and leaves in the lent text.
abbrev pub listing_answer : List ℕ → ℕ → Answer
listing_answer packed room = answer length (listing packed room)

abbrev pub text_after : List ℕ → List ℕ → List ℕ
text_after packed old = leaves (λ bs. bs) (listing packed (length old)) old

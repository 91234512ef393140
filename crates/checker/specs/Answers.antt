-- What the check answers, and leaves in its buffer: a clock's words for each flow.
use Rattle.std.specs.Prelude.{ℕ, ◌+◌, ◌*◌, List, [], ◌∷◌, ◌++◌, map, length, take, leb}
use Rattle.table.specs.declared.Answer.{Answer}
use Rattle.table.specs.declared.refusal.Refusal.TheVariants.{NoRoom}
use Rattle.table.specs.Answers.{Result, unless, then, answer, leaves}
use Rattle.table.specs.Bits.{bit}
use Rattle.table.specs.Rows.{max_flows}
use Rattle.table.specs.Plain.{table_of}
use Rattle.checker.specs.Clocks.{Condition, Clock}
use Rattle.checker.specs.Rules.{clocks_of}

-- how many words a clock has
abbrev pub clock_size : ℕ
clock_size = 11

abbrev pub condition_word : Condition → ℕ
condition_word c = 2 * c.flow + bit c.truth

-- one word a condition: four words, unused ones 0
abbrev pub four_words : (Condition → ℕ) → List Condition → List ℕ
four_words word cs = take 4 (map word cs ++ (0 ∷ 0 ∷ 0 ∷ 0 ∷ []))

-- period, phase, how many conditions, four words of flow and truth, and four view periods
abbrev pub clock_words : Clock → List ℕ
clock_words k =
    k.period ∷ k.phase ∷ length k.conditions
    ∷ (four_words condition_word k.conditions ++ four_words (λ (c : Condition). c.view) k.conditions)

unfoldable pub clocks_words : List Clock → List ℕ
clocks_words [] = []
clocks_words (k ∷ ks) = clock_words k ++ clocks_words ks

-- the clocks of a table in plain form, or its first refusal
abbrev pub clocks_for : ℕ → List ℕ → Result (List Clock)
clocks_for m words = then (table_of m words) clocks_of

-- what the check comes to where there is room for so many words
unfoldable pub checking : ℕ → List ℕ → ℕ → Result (List Clock)
checking m words room = then (table_of m words) λ rows. unless (leb (clock_size * m) room) NoRoom 0 (clocks_of rows)

abbrev pub check_answer : ℕ → List ℕ → ℕ → Answer
check_answer m words room = answer length (checking m words room)

-- the number that it answers, given room for the clocks of any plan
abbrev pub check_number : ℕ → List ℕ → ℕ
check_number m words = (check_answer m words (clock_size * max_flows)).number

abbrev pub clocks_after : ℕ → List ℕ → List ℕ → List ℕ
clocks_after m words old = leaves clocks_words (checking m words (length old)) old

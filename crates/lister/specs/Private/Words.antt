-- The lines of clocks by their words: what the functions below the listing promise.
use Rattle.std.specs.Prelude.{ℕ, zero, suc, ◌+◌, ◌/◌, ◌%◌, cond, List, [], ◌∷◌, ◌++◌, get_or, drop, eqb}
use Rattle.text.specs.Text.{line_feed, decimal}
use Rattle.checker.specs.Rules.{max_conditions}
use Rattle.checker.specs.Answers.{clock_size}
use Rattle.lister.specs.Listing.{minus, letter_c, sign, view_text, field, okay}

-- a condition by its word and its view period
unfoldable pub word_text : ℕ → ℕ → List ℕ
word_text w v = letter_c ∷ (decimal (w / 2) ++ (sign (eqb (w % 2) 1) ∷ view_text v))

-- n conditions; the view periods stand behind the words of the most conditions
unfoldable pub words_text : ℕ → List ℕ → List ℕ
words_text zero ws = []
words_text (suc n) ws = words_text n ws ++ word_text (get_or ws n 0) (get_or ws (n + max_conditions) 0)

unfoldable pub counted_text : ℕ → List ℕ → List ℕ
counted_text n ws = cond (eqb n 0) (minus ∷ []) (words_text n ws)

-- the line of flow f by its clock's words
unfoldable pub clock_text : ℕ → List ℕ → List ℕ
clock_text f ws = field f ++ (field (get_or ws 0 0) ++ (field (get_or ws 1 0) ++ (counted_text (get_or ws 2 0) (drop 3 ws) ++ (line_feed ∷ []))))

-- n lines from flow f on
unfoldable pub clocks_text : ℕ → ℕ → List ℕ → List ℕ
clocks_text zero f ws = []
clocks_text (suc n) f ws = clock_text f ws ++ clocks_text n (suc f) (drop clock_size ws)

-- `ok`, the count and the lines
unfoldable pub table_text : ℕ → List ℕ → List ℕ
table_text n ws = okay ++ (decimal n ++ ((line_feed ∷ []) ++ clocks_text n 0 ws))

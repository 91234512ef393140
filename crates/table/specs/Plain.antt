-- The plain form (the paper's word for the unpacked encoding): a count of flows, and four words a row.
use Rattle.std.specs.Prelude.{ℕ, zero, suc, ◌+◌, ◌*◌, Bool, true, false, cond, ◌&&◌, List, [], ◌∷◌, ◌++◌, length, get_or, take, drop, leb, eqb}
use Rattle.table.specs.declared.Answer.{Answer}
use Rattle.table.specs.declared.Record.{Record}
use Rattle.table.specs.declared.refusal.Refusal.TheVariants.{BadCount}
use Rattle.table.specs.Answers.{Result, good, refused, unless, then, answer}
use Rattle.table.specs.Rows.{Row, Words, row_size, row_by, max_flows}

-- the first row of the words
abbrev pub four : List ℕ → Words
four ws = record { kind = get_or ws 0 0; one = get_or ws 1 0; two = get_or ws 2 0; three = get_or ws 3 0 }

-- the words that the code holds of a row
abbrev pub words_of : Record → Words
words_of r = record { kind = r.kind; one = r.one; two = r.two; three = r.three }

-- n rows
unfoldable pub split : ℕ → List ℕ → List Words
split zero ws = []
split (suc n) ws = four ws ∷ split n (drop row_size ws)

-- row f by its words
abbrev pub row_words : List ℕ → ℕ → Words
row_words words f = four (drop (row_size * f) words)

-- a row in plain form
abbrev pub plain_row : Words → List ℕ
plain_row w = w.kind ∷ w.one ∷ w.two ∷ w.three ∷ []

-- the words of the rows, one after the other
unfoldable pub joined : List Words → List ℕ
joined [] = []
joined (w ∷ ws) = plain_row w ++ joined ws

-- what a function gives of each flow below n, in order
unfoldable pub per_flow : {A : Type 0} → (ℕ → A) → ℕ → List A
per_flow make zero = []
per_flow make (suc f) = per_flow make f ++ (make f ∷ [])

-- the rows of a table of m flows, from number f on; whether each input is to be rated is handed in
unfoldable pub rows_from : Bool → ℕ → ℕ → List Words → Result (List Row)
rows_from rated m f [] = good []
rows_from rated m f (w ∷ ws) = then (row_by rated m f w) λ r. then (rows_from rated m (suc f) ws) λ rs. good (r ∷ rs)

abbrev pub count_fits : ℕ → Bool
count_fits m = leb 1 m && leb m max_flows

-- a table in plain form: its rows, or the first refusal
unfoldable pub table_by : Bool → ℕ → List ℕ → Result (List Row)
table_by rated m words = unless (count_fits m && eqb (length words) (row_size * m)) BadCount 0 (rows_from rated m 0 (split m words))

-- as check and run know it; and a draft (a plan whose inputs may still be unrated), as reading, writing and the call that fills in rates do
abbrev pub table_of : ℕ → List ℕ → Result (List Row)
table_of = table_by true

abbrev pub draft_of : ℕ → List ℕ → Result (List Row)
draft_of = table_by false

-- the rows of a table that is not refused
abbrev pub rows_in : Result (List Row) → List Row
rows_in (good rows) = rows
rows_in (refused why f) = []

-- what the test of a table in plain form answers, and that of a draft
abbrev pub plain_answer : ℕ → List ℕ → Answer
plain_answer m words = answer length (table_of m words)

abbrev pub draft_answer : ℕ → List ℕ → Answer
draft_answer m words = answer length (draft_of m words)

-- a row put in its place, where there is room for it
abbrev pub put_row : ℕ → Words → List ℕ → List ℕ
put_row f w words =
    cond (leb (row_size * f + row_size) (length words)) (take (row_size * f) words ++ (plain_row w ++ drop (row_size * f + row_size) words)) words

-- n words of one buffer over those of another, where both have as many
abbrev pub copied : ℕ → List ℕ → List ℕ → List ℕ
copied n from to = cond (leb n (length from) && leb n (length to)) (take n from ++ drop n to) to

-- The paper's plans A to K, views, and the longest clocks: what check and run come to, and the numbers that they should come to. Proved in proofs/Cases.
use Rattle.std.specs.Prelude.{◌≡◌, ℕ, ◌*◌, ◌-◌, List, [], ◌∷◌, ◌++◌, map, length, replicate}
use Rattle.table.specs.declared.Answer.{Answer}
use Rattle.table.specs.Rows.{Words}
use Rattle.table.specs.Plain.{joined}
use Rattle.checker.specs.Answers.{clock_size, check_answer, clocks_after}
use Rattle.semantics.specs.Answers.{run_answer, marks_after, values_after}

pub record Case : Type 0 where
  pub outcome : List ℕ
  pub expected : List ℕ

abbrev pub four_parts : Answer → List ℕ
four_parts a = a.number ∷ a.flow ∷ a.tick ∷ a.count ∷ []

abbrev pub row : ℕ → ℕ → ℕ → ℕ → Words
row k x y z = record { kind = k; one = x; two = y; three = z }

-- the check of a plan: number, flow, tick and count of its answer, and what it leaves in a buffer of nines
abbrev pub checked : List Words → ℕ → ℕ → ℕ → ℕ → List ℕ → Case
checked rows number flow tick count left =
    let words : List ℕ = joined rows in
    let room : ℕ = clock_size * length rows in
    record {
      outcome = four_parts (check_answer (length rows) words room) ++ clocks_after (length rows) words (replicate room 9);
      expected = number ∷ flow ∷ tick ∷ count ∷ left;
    }

-- the run of a plan over a log: the same, and what it leaves in marks and values of nines
abbrev pub ran : List Words → List ℕ → ℕ → ℕ → ℕ → ℕ → ℕ → List ℕ → List ℕ → Case
ran rows log ticks number flow tick count marks values =
    let m : ℕ = length rows in
    let words : List ℕ = joined rows in
    let old : List ℕ = replicate (ticks * m) 9 in
    record {
      outcome =
          four_parts (run_answer m words log ticks (length old) (length old))
          ++ (marks_after m words log ticks old old ++ values_after m words log ticks old old);
      expected = number ∷ flow ∷ tick ∷ count ∷ (marks ++ values);
    }

-- one that is refused: nothing is written
abbrev pub refuses : List Words → ℕ → ℕ → Case
refuses rows number flow = checked rows number flow 0 0 (replicate (clock_size * length rows) 9)

-- A clock is its period, its phase, how many conditions it has, four words of conditions, and four view periods. A plain clock,
abbrev pub plainly : ℕ → ℕ → List ℕ
plainly n p = n ∷ p ∷ replicate (clock_size - 2) 0

-- and one with one condition, given by its word and its view period
abbrev pub under_one : ℕ → ℕ → ℕ → ℕ → List ℕ
under_one n p word w = n ∷ p ∷ 1 ∷ word ∷ 0 ∷ 0 ∷ 0 ∷ w ∷ 0 ∷ 0 ∷ 0 ∷ []

-- inputs (10, 0) and (20, 0), and their sum
abbrev pub plan_d : List Words
plan_d = row 0 10 0 0 ∷ row 0 20 0 0 ∷ row 2 0 1 0 ∷ []

-- inputs (4, 0) and (4, 0), and the first when and when-not the second
abbrev pub plan_i : List Words
plan_i = row 0 4 0 0 ∷ row 0 4 0 0 ∷ row 13 0 1 0 ∷ row 14 0 1 0 ∷ []

-- a mode switch (15, 0) that governs an input (10, 0), when-seen and when-not-seen with view period 30
abbrev pub plan_switch : List Words
plan_switch = row 0 15 0 0 ∷ row 0 10 0 0 ∷ row 17 1 0 30 ∷ row 18 1 0 30 ∷ []

-- the same with (3, 1), (2, 2) and view period 6: the switch begins a tick before the input
abbrev pub plan_shifted : List Words
plan_shifted = row 0 3 1 0 ∷ row 0 2 2 0 ∷ row 17 1 0 6 ∷ row 18 1 0 6 ∷ []

-- inputs (1, 0) and (1, 0), and the second when, when-seen and when-not-seen the first, with view period 1
abbrev pub plan_each : List Words
plan_each = row 0 1 0 0 ∷ row 0 1 0 0 ∷ row 13 1 0 0 ∷ row 17 1 0 1 ∷ row 18 1 0 1 ∷ []

-- inputs (1, 0) and (2, 0), and the second when-seen the first with view period 3, which is no multiple of 2
abbrev pub plan_uneven : List Words
plan_uneven = row 0 1 0 0 ∷ row 0 2 0 0 ∷ row 17 1 0 3 ∷ []

-- a slow recorder: an input (3855, 0), every 17th of it, and those from the second on, with the longest period and phase
abbrev pub plan_slow : List Words
plan_slow = row 0 3855 0 0 ∷ row 9 0 17 0 ∷ row 12 1 0 0 ∷ []

abbrev pub cases : List Case
cases =
    -- A
    checked (row 0 3 0 0 ∷ row 8 0 3 1 ∷ []) 0 0 0 2 (plainly 3 0 ++ plainly 1 0)
    -- B
    ∷ checked (row 0 3 0 0 ∷ row 9 0 2 0 ∷ []) 0 0 0 2 (plainly 3 0 ++ plainly 6 0)
    -- C
    ∷ checked (row 0 3 0 0 ∷ row 9 0 2 0 ∷ row 8 1 3 2 ∷ []) 0 0 0 3 (plainly 3 0 ++ plainly 6 0 ++ plainly 2 0)
    -- D
    ∷ refuses plan_d 21 2
    ∷ ran plan_d (replicate 20 5) 10 0 0 0 10 (1 ∷ 1 ∷ 1 ∷ replicate 27 0) (5 ∷ 5 ∷ 10 ∷ replicate 27 0)
    ∷ ran plan_d (replicate 22 5) 11 34 2 10 0 (1 ∷ 1 ∷ 1 ∷ (replicate 27 0 ++ (1 ∷ 0 ∷ 9 ∷ [])))
    (5 ∷ 5 ∷ 10 ∷ (replicate 27 0 ++ (5 ∷ 0 ∷ 9 ∷ [])))
    -- E
    ∷ refuses (row 0 11 0 0 ∷ row 8 0 2 5 ∷ []) 21 1
    -- F
    ∷ checked (row 0 65 0 0 ∷ row 9 0 63 0 ∷ []) 0 0 0 2 (plainly 65 0 ++ plainly 4095 0)
    ∷ checked (row 0 66 0 0 ∷ row 9 0 63 0 ∷ []) 0 0 0 2 (plainly 66 0 ++ plainly 4158 0)
    -- G
    ∷ checked (row 0 5 10 0 ∷ row 11 0 0 5 ∷ []) 0 0 0 2 (plainly 5 10 ++ plainly 5 5)
    ∷ refuses (row 0 5 9 0 ∷ row 11 0 0 5 ∷ []) 21 1
    -- H
    ∷ checked (row 0 1 0 0 ∷ row 10 0 4095 0 ∷ []) 0 0 0 2 (plainly 1 0 ++ plainly 1 4095)
    ∷ checked (row 0 1 1 0 ∷ row 10 0 4095 0 ∷ []) 0 0 0 2 (plainly 1 1 ++ plainly 1 4096)
    -- I
    ∷ checked (plan_i ++ (row 15 1 2 3 ∷ [])) 0 0 0 5
    (plainly 4 0 ++ plainly 4 0 ++ under_one 4 0 3 0 ++ under_one 4 0 2 0 ++ plainly 4 0)
    ∷ refuses (plan_i ++ (row 15 1 3 2 ∷ [])) 21 4
    -- J
    ∷ refuses (plan_i ++ (row 12 2 0 0 ∷ [])) 23 4
    -- K
    ∷ ran (row 0 2 0 0 ∷ row 7 7 0 0 ∷ []) (10 ∷ 11 ∷ 12 ∷ 13 ∷ 14 ∷ []) 5 0 0 0 5
    (1 ∷ 1 ∷ 0 ∷ 0 ∷ 1 ∷ 1 ∷ 0 ∷ 0 ∷ 1 ∷ 1 ∷ []) (10 ∷ 7 ∷ 0 ∷ 0 ∷ 12 ∷ 10 ∷ 0 ∷ 0 ∷ 14 ∷ 12 ∷ [])
    -- the slow recorder; copies of it that do not fill its period; a period and a phase of 65,536
    ∷ checked plan_slow 0 0 0 3 (plainly 3855 0 ++ plainly 65535 0 ++ plainly 65535 65535)
    ∷ refuses (plan_slow ++ (row 8 2 1 1 ∷ [])) 21 3
    ∷ refuses (row 0 2048 0 0 ∷ row 9 0 32 0 ∷ []) 22 1
    ∷ refuses (row 0 3855 1 0 ∷ row 9 0 17 0 ∷ row 12 1 0 0 ∷ []) 22 2
    -- the mode switch, and when over a clock with a viewed condition: its own is direct, and last
    ∷ checked (plan_switch ++ (row 13 2 2 0 ∷ [])) 0 0 0 5
    (plainly 15 0 ++ plainly 10 0 ++ under_one 10 0 1 30 ++ under_one 10 0 0 30 ++ (10 ∷ 0 ∷ 2 ∷ 1 ∷ 5 ∷ 0 ∷ 0 ∷ 30 ∷ 0 ∷ 0 ∷ 0 ∷ []))
    -- the switch is true at tick 0 and false at ticks 15 and 30; it is looked at in ticks 0 and 30
    ∷ ran plan_switch
    ((5 ∷ 100 ∷ []) ++ replicate 19 9 ++ (110 ∷ []) ++ replicate 8 9 ++ (0 ∷ []) ++ replicate 10 9 ++ (120 ∷ []) ++ replicate 18 9 ++ (0 ∷ 130 ∷ []))
    31 0 0 0 31
    ((1 ∷ 1 ∷ 1 ∷ 0 ∷ []) ++ replicate 36 0 ++ (0 ∷ 1 ∷ 1 ∷ 0 ∷ []) ++ replicate 16 0 ++ (1 ∷ 0 ∷ 0 ∷ 0 ∷ []) ++ replicate 16 0
    ++ (0 ∷ 1 ∷ 1 ∷ 0 ∷ []) ++ replicate 36 0 ++ (1 ∷ 1 ∷ 0 ∷ 1 ∷ []))
    ((5 ∷ 100 ∷ 100 ∷ 0 ∷ []) ++ replicate 36 0 ++ (0 ∷ 110 ∷ 110 ∷ 0 ∷ []) ++ replicate 36 0
    ++ (0 ∷ 120 ∷ 120 ∷ 0 ∷ []) ++ replicate 36 0 ++ (0 ∷ 130 ∷ 0 ∷ 130 ∷ []))
    -- phases that differ: the switch is looked at in tick 1 for ticks 2 to 7, and in tick 7 for ticks 8 to 13
    ∷ checked plan_shifted 0 0 0 4 (plainly 3 1 ++ plainly 2 2 ++ under_one 2 2 1 6 ++ under_one 2 2 0 6)
    ∷ ran plan_shifted
    (9 ∷ 9 ∷ 0 ∷ 9 ∷ 9 ∷ 102 ∷ 9 ∷ 9 ∷ 4 ∷ 104 ∷ 9 ∷ 9 ∷ 9 ∷ 106 ∷ 7 ∷ 9 ∷ 9 ∷ 108 ∷ 9 ∷ 9 ∷ 0 ∷ 110 ∷ [])
    11 0 0 0 11
    (replicate 4 0 ++ (1 ∷ 0 ∷ 0 ∷ 0 ∷ 0 ∷ 1 ∷ 0 ∷ 1 ∷ 0 ∷ 0 ∷ 0 ∷ 0 ∷ 1 ∷ 1 ∷ 0 ∷ 1 ∷ 0 ∷ 0 ∷ 0 ∷ 0 ∷ 0 ∷ 1 ∷ 0 ∷ 1
    ∷ 1 ∷ 0 ∷ 0 ∷ 0 ∷ 0 ∷ 1 ∷ 1 ∷ 0 ∷ 0 ∷ 0 ∷ 0 ∷ 0 ∷ 1 ∷ 1 ∷ 1 ∷ 0 ∷ []))
    (replicate 9 0 ++ (102 ∷ 0 ∷ 102 ∷ 0 ∷ 0 ∷ 0 ∷ 0 ∷ 4 ∷ 104 ∷ 0 ∷ 104 ∷ 0 ∷ 0 ∷ 0 ∷ 0 ∷ 0 ∷ 106 ∷ 0 ∷ 106
    ∷ 7 ∷ 0 ∷ 0 ∷ 0 ∷ 0 ∷ 108 ∷ 108 ∷ 0 ∷ 0 ∷ 0 ∷ 0 ∷ 0 ∷ 0 ∷ 110 ∷ 110 ∷ 0 ∷ []))
    -- a view period that is no multiple of the input's period, or of the switch's; a switch that begins later than the input
    ∷ refuses (row 0 15 0 0 ∷ row 0 10 0 0 ∷ row 17 1 0 15 ∷ []) 40 2
    ∷ refuses (row 0 15 0 0 ∷ row 0 10 0 0 ∷ row 18 1 0 20 ∷ []) 40 2
    ∷ refuses (row 0 15 1 0 ∷ row 0 10 0 0 ∷ row 17 1 0 30 ∷ []) 40 2
    -- a clock that is not plain comes first
    ∷ refuses (plan_switch ++ (row 17 2 0 7 ∷ [])) 23 4
    ∷ refuses (plan_switch ++ (row 17 1 2 7 ∷ [])) 23 4
    -- view period 0 is out of range
    ∷ refuses (row 0 1 0 0 ∷ row 17 0 0 0 ∷ []) 14 1
    -- clocks that differ: sampled directly and seen every tick, and two view periods; a merge asks for direct conditions
    ∷ refuses (plan_each ++ (row 2 2 3 0 ∷ [])) 21 5
    ∷ refuses (row 0 1 0 0 ∷ row 0 1 0 0 ∷ row 17 1 0 2 ∷ row 17 1 0 1 ∷ row 2 2 3 0 ∷ []) 21 4
    ∷ refuses (plan_each ++ (row 15 0 3 4 ∷ [])) 21 5
    -- the run reads no clock: a view begins at tick 3, where the input is absent
    ∷ refuses plan_uneven 40 2
    ∷ ran plan_uneven (1 ∷ 100 ∷ 0 ∷ 9 ∷ 0 ∷ 102 ∷ 0 ∷ 9 ∷ 1 ∷ 104 ∷ []) 5 0 0 0 5
    (1 ∷ 1 ∷ 1 ∷ 1 ∷ 0 ∷ 0 ∷ 1 ∷ 1 ∷ 1 ∷ 1 ∷ 0 ∷ 0 ∷ 1 ∷ 1 ∷ 0 ∷ [])
    (1 ∷ 100 ∷ 100 ∷ 0 ∷ 0 ∷ 0 ∷ 0 ∷ 102 ∷ 102 ∷ 0 ∷ 0 ∷ 0 ∷ 1 ∷ 104 ∷ 0 ∷ [])
    -- clashes: the switch has not begun, and it is absent where it is looked at
    ∷ ran (row 0 1 2 0 ∷ row 0 1 1 0 ∷ row 17 1 0 1 ∷ []) (9 ∷ 9 ∷ 9 ∷ 101 ∷ 1 ∷ 102 ∷ []) 3 34 2 1 0
    (0 ∷ 0 ∷ 0 ∷ 0 ∷ 1 ∷ 9 ∷ 9 ∷ 9 ∷ 9 ∷ []) (0 ∷ 0 ∷ 0 ∷ 0 ∷ 101 ∷ 9 ∷ 9 ∷ 9 ∷ 9 ∷ [])
    ∷ ran (row 0 2 0 0 ∷ row 0 1 0 0 ∷ row 17 1 0 1 ∷ []) (1 ∷ 100 ∷ 9 ∷ 101 ∷ 1 ∷ 102 ∷ []) 3 34 2 1 0
    (1 ∷ 1 ∷ 1 ∷ 0 ∷ 1 ∷ 9 ∷ 9 ∷ 9 ∷ 9 ∷ []) (1 ∷ 100 ∷ 100 ∷ 0 ∷ 101 ∷ 9 ∷ 9 ∷ 9 ∷ 9 ∷ [])
    ∷ []

-- each plan comes to what it should
abbrev pub AllCases : Type 0
AllCases = map (λ (c : Case). c.outcome) cases ≡ map (λ (c : Case). c.expected) cases

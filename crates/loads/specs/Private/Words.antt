-- A flow's line by the words that the check left: what the functions below the page promise.
use Rattle.std.specs.Prelude.{ℕ, ◌+◌, ◌*◌, ◌%◌, List, get_or}
use Rattle.table.specs.Rows.{max_flows}
use Rattle.checker.specs.Answers.{clock_size}
use Rattle.loads.specs.declared.Flows.{Flows}
use Rattle.loads.specs.Loads.{Line, lines_from}

-- flow f's line by the words of the clocks and the worst times
abbrev pub line_in : List ℕ → List ℕ → ℕ → Line
line_in ws times f =
    record {
      flow = f;
      period = get_or ws (clock_size * f) 0;
      phase = get_or ws (clock_size * f + 1) 0;
      conditions = get_or ws (clock_size * f + 2) 0;
      worst = get_or times f 0;
    }

-- the lines of n flows
abbrev pub lines_in : List ℕ → List ℕ → ℕ → List Line
lines_in ws times n = lines_from (line_in ws times) n 0

-- the same of flows
abbrev pub line_at : Flows → ℕ → Line
line_at flows = line_in flows.clocks.now flows.times.now

abbrev pub lines_of : Flows → List Line
lines_of flows = lines_in flows.clocks.now flows.times.now flows.count

-- the line of the flow that a key has as its remainder
abbrev pub line_by : Flows → ℕ → Line
line_by flows k = line_at flows (k % max_flows)

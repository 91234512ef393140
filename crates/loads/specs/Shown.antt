-- What a caller finds on a page: every line in its place, of the right width, with the nearest load, and the total of what is printed.
use Rattle.std.specs.Prelude.{◌≡◌, ℕ, ◌+◌, ◌*◌, ◌≤◌, List, length, get_or}
use Rattle.table.specs.declared.Answer.{Answer}
use Rattle.table.specs.Answers.{good, over}
use Rattle.table.specs.Rows.{max_flows}
use Rattle.checker.specs.Clocks.{Clock}
use Rattle.checker.specs.Answers.{clock_size, checking, check_answer}
use Rattle.loads.specs.Loads.{Nearest, max_time, max_load, Line, load, line_of, lines_from, Among, Ordered, line_text, total, total_text, page_text, line_size, page_answer, page_after}

-- what a call leaves that answered 0, over a page that was old and is new
pub record Shown (m : ℕ) (words times old new : List ℕ) (r : Answer) : Type 0 where
  -- the clocks that the check gives, which has room for any table; one clock and one worst time a flow
  pub clocks : List Clock
  pub checked : (room : ℕ) → clock_size * max_flows ≤ room → checking m words room ≡ good clocks
  pub one_each : (length clocks ≡ m) × (length times ≡ m)
  -- the lines of all flows in order
  pub lines : List Line
  pub ordered : Ordered (lines_from (line_of clocks times) (length clocks) 0) lines
  -- no period is 0, and each load is to the nearest whole
  pub positive : (l : Line) → Among l lines → 1 ≤ l.period
  pub nearest : (l : Line) → Among l lines → Nearest (1000 * l.worst) l.period (load l)
  -- loads and total are bounded, and nothing outgrows its column: a line is as long as its columns are wide
  pub load_bound : (l : Line) → Among l lines → load l ≤ max_load
  pub total_bound : total lines ≤ max_flows * max_load
  pub width : (l : Line) → Among l lines → length (line_text l) ≡ line_size
  pub last_width : length (total_text (total lines)) ≡ line_size
  -- the page of these lines, as many bytes as the call counts, and all else as it was
  pub left : new ≡ over (page_text lines) old
  pub count : r.count ≡ length (page_text lines)
  pub size : length (page_text lines) ≡ line_size * (m + 1)

pub record LoadPage : Type 0 where
  -- a plan that the check refuses gets that refusal, and the page stays
  pub handed_on :
      (m : ℕ) (words times old : List ℕ) (room : ℕ) → clock_size * max_flows ≤ room → ((check_answer m words room).number ≡ 0 → ⊥)
      → (page_answer m words times (length old) ≡ check_answer m words room) × (page_after m words times old ≡ old)
  -- a page that was made is as it should be
  pub shown :
      (m : ℕ) (words times old new : List ℕ) (r : Answer) → r ≡ page_answer m words times (length old) → new ≡ page_after m words times old
      → ((f : ℕ) → get_or times f 0 ≤ max_time) → r.number ≡ 0 → Shown m words times old new r
  -- there is one order of some lines, and over a period exactly one nearest whole
  pub one_order : (ls ss ss' : List Line) → Ordered ls ss → Ordered ls ss' → ss ≡ ss'
  pub one_nearest : (x p : ℕ) → 1 ≤ p → (r : ℕ) × Nearest x p r × ((s : ℕ) → Nearest x p s → s ≡ r)

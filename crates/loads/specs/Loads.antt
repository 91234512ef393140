-- The load page, byte by byte: a line for each flow in order, and the total.
use Rattle.std.specs.Prelude.{◌≡◌, ℕ, zero, suc, ◌+◌, ◌*◌, ◌-◌, ◌/◌, ◌%◌, ◌≤◌, ◌<◌, cond, List, [], ◌∷◌, ◌++◌, length, get_or, ltb, leb, eqb}
use Rattle.text.specs.Text.{line_feed, space, right}
use Rattle.table.specs.declared.Answer.{Answer}
use Rattle.table.specs.declared.refusal.Refusal.TheVariants.{WrongTimes, ShortPage}
use Rattle.table.specs.Answers.{Result, good, unless, then, answer, leaves}
use Rattle.table.specs.Rows.{max_flows}
use Rattle.checker.specs.Clocks.{Clock}
use Rattle.checker.specs.Rules.{max_derived, clock_at}
use Rattle.checker.specs.Answers.{clocks_for}

-- ---- a load

-- how far two numbers are from each other
abbrev pub distance : ℕ → ℕ → ℕ
distance m n = (m - n) + (n - m)

-- r is the whole nearest to x / p, and of two that are equally near the even one: no multiple of p is nearer to x than r × p is, and where another one is as
-- near, r is even
pub record Nearest (x p r : ℕ) : Type 0 where
  pub nearest : (s : ℕ) → distance x (r * p) ≤ distance x (s * p)
  pub even : (s : ℕ) → (s ≡ r → ⊥) → distance x (s * p) ≡ distance x (r * p) → r % 2 ≡ 0

-- x divided by p, to the nearest whole: the whole part, and one more where what is left is more than half of p, or half and the whole part odd; 0 over 0
abbrev pub rounded : ℕ → ℕ → ℕ
rounded x zero = 0
rounded x (suc n) =
    let p : ℕ = suc n in
    cond (ltb p (2 * (x % p) + x / p % 2)) (x / p + 1) (x / p)

-- the largest worst time, and the largest load
abbrev pub max_time : ℕ
max_time = 65535

abbrev pub max_load : ℕ
max_load = 1000 * max_time

-- ---- lines

-- what a flow's line is made of: its number, its clock's period, phase and count of conditions, and its worst time
pub record Line : Type 0 where
  pub flow : ℕ
  pub period : ℕ
  pub phase : ℕ
  pub conditions : ℕ
  pub worst : ℕ

-- 1000 times the worst time divided by the period
abbrev pub load : Line → ℕ
load l = rounded (1000 * l.worst) l.period

-- the line of flow f
abbrev pub line_of : List Clock → List ℕ → ℕ → Line
line_of ks times f =
    record {
      flow = f;
      period = (clock_at ks f).period;
      phase = (clock_at ks f).phase;
      conditions = length (clock_at ks f).conditions;
      worst = get_or times f 0;
    }

-- the lines of n flows, from number f on
unfoldable pub lines_from : (ℕ → Line) → ℕ → ℕ → List Line
lines_from line zero f = []
lines_from line (suc n) f = line f ∷ lines_from line n (suc f)

-- ---- their order

-- a line stands before another: by period ascending, equal periods by phase ascending, and only then by flow number
pub record Before (a b : Line) : Type 0 where
  pub by_period : a.period ≤ b.period
  pub by_phase : a.period ≡ b.period → a.phase ≤ b.phase
  pub by_flow : a.period ≡ b.period → a.phase ≡ b.phase → a.flow < b.flow

-- that order as one number, which has period, phase and flow as its digits: a phase is at most max_derived, a flow below max_flows
abbrev pub key : Line → ℕ
key l = max_flows * ((max_derived + 1) * l.period + l.phase) + l.flow

-- a line put before the first one that has a larger key
unfoldable pub insert : Line → List Line → List Line
insert l [] = l ∷ []
insert l (h ∷ ls) = cond (ltb (key l) (key h)) (l ∷ h ∷ ls) (h ∷ insert l ls)

-- lines in order
unfoldable pub sorted : List Line → List Line
sorted [] = []
sorted (l ∷ ls) = insert l (sorted ls)

-- a line is among those of a list
pub data Among (l : Line) : List Line → Type 0 where
  here : {h : Line} {ls : List Line} → l ≡ h → Among l (h ∷ ls)
  there : {h : Line} {ls : List Line} → Among l ls → Among l (h ∷ ls)

-- each line stands before all that follow it
abbrev pub Standing : List Line → Type 0
Standing [] = Unit {0}
Standing (l ∷ ls) = ((x : Line) → Among x ls → Before l x) × Standing ls

-- what it is to be in order: one before the other, and the same lines
pub record Ordered (ls ss : List Line) : Type 0 where
  pub standing : Standing ss
  pub size : length ss ≡ length ls
  pub same : (l : Line) → Among l ls → Among l ss
  pub only : (l : Line) → Among l ss → Among l ls

-- ---- the page

-- a number right-aligned in w characters, and a space
abbrev pub field : ℕ → ℕ → List ℕ
field w n = right w n ++ (space ∷ [])

-- flow 2 wide, period 5, phase 5, count of conditions 1, load 8, one space between
unfoldable pub line_text : Line → List ℕ
line_text l =
    field 2 l.flow ++ (field 5 l.period ++ (field 5 l.phase ++ (field 1 l.conditions ++ (right 8 (load l) ++ (line_feed ∷ [])))))

unfoldable pub lines_text : List Line → List ℕ
lines_text [] = []
lines_text (l ∷ ls) = line_text l ++ lines_text ls

-- the sum of the printed loads
unfoldable pub total : List Line → ℕ
total [] = 0
total (l ∷ ls) = load l + total ls

-- `total`
abbrev pub total_word : List ℕ
total_word = 116 ∷ 111 ∷ 116 ∷ 97 ∷ 108 ∷ []

unfoldable pub total_text : ℕ → List ℕ
total_text n = total_word ++ (right 20 n ++ (line_feed ∷ []))

unfoldable pub page_text : List Line → List ℕ
page_text ls = lines_text ls ++ total_text (total ls)

-- the page of a plan by its clocks and worst times
abbrev pub page_of : List Clock → List ℕ → List ℕ
page_of ks times = page_text (sorted (lines_from (line_of ks times) (length ks) 0))

-- the bytes of a line: 25 characters and a line feed
abbrev pub line_size : ℕ
line_size = 26

-- what the page comes to where there is room for so many bytes
unfoldable pub paging : ℕ → List ℕ → List ℕ → ℕ → Result (List ℕ)
paging m words times room =
    then (clocks_for m words) λ ks.
    unless (eqb (length times) m) WrongTimes 0
    (unless (leb (line_size * (m + 1)) room) ShortPage 0 (good (page_of ks times)))

-- What it answers, and leaves in the lent page.
abbrev pub page_answer : ℕ → List ℕ → List ℕ → ℕ → Answer
page_answer m words times room = answer length (paging m words times room)

abbrev pub page_after : ℕ → List ℕ → List ℕ → List ℕ → List ℕ
page_after m words times old = leaves (λ bytes. bytes) (paging m words times (length old)) old

-- The clocks as the code holds them, what it carries from tick to tick, and what its loops do.
use Rattle.std.specs.Prelude.{◌≡◌, ℕ, ◌+◌, ◌*◌, ◌≤◌, ◌<◌, Bool, true, false, cond, ◌⊎◌, List, length, get_or, eqb}
use Rattle.table.specs.Rows.{max_flows}
use Rattle.table.specs.Plain.{per_flow}
use Rattle.checker.specs.Clocks.{Clock, every}
use Rattle.checker.specs.Rules.{max_derived}
use Rattle.checker.specs.Answers.{clock_size}
use Rattle.semantics.specs.Cells.{on_grid}
use Rattle.calendar.specs.Calendar.{clock_word, cell_at}
use Rattle.archive.specs.Columns.{points, cell_fits}
use Rattle.archive.specs.Traces.{words_before}
use Rattle.archive.specs.declared.plan.Next.{Next}

-- flow f's period and phase in the words of the clocks
abbrev pub period_in : List ℕ → ℕ → ℕ
period_in clocks f = clock_word clocks f 0

abbrev pub phase_in : List ℕ → ℕ → ℕ
phase_in clocks f = clock_word clocks f 1

abbrev pub clock_in : List ℕ → ℕ → Clock
clock_in clocks f = every (period_in clocks f) (phase_in clocks f)

unfoldable pub clocks_in : ℕ → List ℕ → List Clock
clocks_in m clocks = per_flow (clock_in clocks) m

-- the words of m clocks stand there, with periods in their range
pub record Sound (m : ℕ) (clocks : List ℕ) : Type 0 where
  pub few : m ≤ max_flows
  pub room : clock_size * m ≤ length clocks
  pub positive : (f : ℕ) → f < m → 0 < period_in clocks f
  pub period_fits : (f : ℕ) → f < m → period_in clocks f ≤ max_derived

-- the due tick number j of a period and a phase, and the next one from tick t on
abbrev pub point : ℕ → ℕ → ℕ → ℕ
point n p j = p + j * n

abbrev pub next_from : ℕ → ℕ → ℕ → ℕ
next_from n p t = point n p (points n p t)

-- What is carried for each flow: its next due tick from tick t on, and the place of its word in store.
abbrev pub next_in : List ℕ → ℕ → ℕ → ℕ
next_in clocks t f = next_from (period_in clocks f) (phase_in clocks f) t

abbrev pub place_in : ℕ → List ℕ → ℕ → ℕ → ℕ → ℕ
place_in m clocks ticks t f = words_before (clocks_in m clocks) ticks f + points (period_in clocks f) (phase_in clocks f) t

-- both together
abbrev pub next_at : ℕ → List ℕ → ℕ → ℕ → ℕ → Next
next_at m clocks ticks t f = record { tick = next_in clocks t f; place = place_in m clocks ticks t f }

-- what is read where nothing is kept
abbrev pub none : Next
none = record { tick = 0; place = 0 }

-- flow f's next due tick and the place of its word, moved on to the first due tick that is not below the end
abbrev pub moved_to : ℕ → Next → ℕ → Next
moved_to n from end = record { tick = point n from.tick (points n from.tick end); place = from.place + points n from.tick end }

-- what is kept for each flow, as it is at tick t
pub record Carried {A : Type 0} (d : A) (m : ℕ) (of : ℕ → ℕ → A) (t : ℕ) (kept : List A) : Type 0 where
  pub each : (f : ℕ) → f < m → get_or kept f d ≡ of t f

-- flow f's cell of tick t is as its clock says
abbrev pub fits_at : ℕ → List ℕ → List ℕ → List ℕ → ℕ → ℕ → Bool
fits_at m clocks marks values t f = cell_fits (on_grid (period_in clocks f) (phase_in clocks f) t) (cell_at m marks t f) (cell_at m values t f)

-- its cell of tick t is as its next due tick says, and where that has come it moves on
abbrev pub cell_told : ℕ → ℕ → List ℕ → List ℕ → List ℕ → ℕ → Bool
cell_told m t marks values next f = cell_fits (eqb (get_or next f 0) t) (cell_at m marks t f) (cell_at m values t f)

abbrev pub moved_on : ℕ → List ℕ → List ℕ → ℕ → ℕ
moved_on t periods next f = cond (eqb (get_or next f 0) t) (t + get_or periods f 0) (get_or next f 0)

-- what is told of the cells of a tick's first flows: all of them are so, or one is not
abbrev pub AllTold : ℕ → ℕ → List ℕ → List ℕ → List ℕ → ℕ → Bool → Type 0
AllTold m t marks values next flows true = (f : ℕ) → f < flows → cell_told m t marks values next f ≡ true
AllTold m t marks values next flows false = (f : ℕ) × (f < flows) × (cell_told m t marks values next f ≡ false)

pub record TickFits (m t : ℕ) (periods marks values next next' : List ℕ) (r : Bool) : Type 0 where
  pub told : AllTold m t marks values next m r
  pub moved : (f : ℕ) → f < m → get_or next' f 0 ≡ moved_on t periods next f

-- the first c words of flow f stand from a place on, and the other places are as they were
pub record Taken (m n p f at c : ℕ) (values old stored : List ℕ) : Type 0 where
  pub size : length stored ≡ length old
  pub words : (j : ℕ) → j < c → get_or stored (at + j) 0 ≡ cell_at m values (point n p j) f
  pub others : (x : ℕ) → (x < at) ⊎ (at + c ≤ x) → get_or stored x 0 ≡ get_or old x 0

-- the words of the ticks before one are in store
pub record WordsTo (m : ℕ) (clocks values : List ℕ) (ticks begin : ℕ) (stored : List ℕ) : Type 0 where
  pub words : (g j : ℕ) → g < m → j < points (period_in clocks g) (phase_in clocks g) begin
      → get_or stored (words_before (clocks_in m clocks) ticks g + j) 0 ≡ cell_at m values (point (period_in clocks g) (phase_in clocks g) j) g

-- the first c due cells of flow f have been given what is theirs, and the other places are as they were
pub record Put (m n p f c : ℕ) (given : ℕ → ℕ) (old new : List ℕ) : Type 0 where
  pub size : length new ≡ length old
  pub own : (j : ℕ) → j < c → cell_at m new (point n p j) f ≡ given j
  pub others : (x : ℕ) → ((j : ℕ) → j < c → x ≡ point n p j * m + f → ⊥) → get_or new x 0 ≡ get_or old x 0

-- the cells of the ticks before one are as wanted
pub record FilledTo (m begin : ℕ) (want : ℕ → ℕ → ℕ) (l : List ℕ) : Type 0 where
  pub before : (t g : ℕ) → t < begin → g < m → cell_at m l t g ≡ want t g

-- so are those of the flows before f in a block of ticks, of which the others are 0
pub record Filled (m begin end f : ℕ) (want : ℕ → ℕ → ℕ) (l : List ℕ) : Type 0 where
  pub early : FilledTo m begin want l
  pub inside : (t g : ℕ) → begin ≤ t → t < end → g < f → cell_at m l t g ≡ want t g
  pub beside : (t g : ℕ) → begin ≤ t → t < end → f ≤ g → g < m → cell_at m l t g ≡ 0

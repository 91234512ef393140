-- The same by a plan, as the code holds it.
use Rattle.std.specs.Prelude.{◌≡◌, ℕ, ◌+◌, ◌*◌, List, length, get_or}
use Rattle.table.specs.declared.refusal.Refused.{Refused}
use Rattle.table.specs.Answers.{good, refused, named}
use Rattle.checker.specs.Clocks.{Clock}
use Rattle.archive.specs.Columns.{points}
use Rattle.archive.specs.Traces.{words_before, restored_mark, restored_value}
use Rattle.archive.specs.Answers.{archiving}
use Rattle.archive.specs.declared.plan.Next.{Next}
use Rattle.archive.specs.declared.plan.Plan.{Plan}
use Rattle.archive.specs.Private.Steps.{period_in, clocks_in, next_in, next_at, none, moved_to, Carried, Taken, WordsTo, Put, FilledTo}

-- its clocks, and how many words they give
abbrev pub clocks_of : Plan → List Clock
clocks_of p = clocks_in p.flows p.clocks.now

abbrev pub words_of : Plan → ℕ
words_of p = words_before (clocks_of p) p.ticks p.flows

-- marks or values, as many as its trace has
abbrev pub IsTrace : Plan → List ℕ → Type 0
IsTrace p cells = length cells ≡ p.ticks * p.flows

-- the plan whose traces of so many ticks can be stored
pub record Opens (m : ℕ) (words : List ℕ) (ticks : ℕ) (p : Plan) : Type 0 where
  pub flows : p.flows ≡ m
  pub ticks_are : p.ticks ≡ ticks
  pub eq : archiving m words ticks ≡ good (clocks_of p)

-- the refusal of one whose traces cannot
pub record Refuses (m : ℕ) (words : List ℕ) (ticks : ℕ) (r : Refused) : Type 0 where
  pub found : archiving m words ticks ≡ refused r.why r.flow
  pub eq : r ≡ named r.why r.flow

-- each flow's period, its next due tick from tick t on, and that with the place of its word
abbrev pub PeriodsIn : Plan → List ℕ → Type 0
PeriodsIn p periods = Carried 0 p.flows (λ (t f : ℕ). period_in p.clocks.now f) 0 periods

abbrev pub TicksIn : Plan → ℕ → List ℕ → Type 0
TicksIn p t next = Carried 0 p.flows (next_in p.clocks.now) t next

abbrev pub next_of : Plan → ℕ → ℕ → Next
next_of p t f = next_at p.flows p.clocks.now p.ticks t f

abbrev pub CarriedBy : Plan → ℕ → List Next → Type 0
CarriedBy p t next = Carried none p.flows (next_of p) t next

-- how many of flow f's due ticks are below the end, from its next one on, and what they move on to
abbrev pub due : Plan → ℕ → Next → ℕ → ℕ
due p f from end = points (period_in p.clocks.now f) from.tick end

abbrev pub after : Plan → ℕ → Next → ℕ → Next
after p f from end = moved_to (period_in p.clocks.now f) from end

-- the words of those ticks are in store, or given back
abbrev pub TakenBy : Plan → ℕ → Next → ℕ → List ℕ → List ℕ → List ℕ → Type 0
TakenBy p f from end values old stored = Taken p.flows (period_in p.clocks.now f) from.tick f from.place (due p f from end) values old stored

abbrev pub MarksPut : Plan → ℕ → Next → ℕ → List ℕ → List ℕ → Type 0
MarksPut p f from end old new = Put p.flows (period_in p.clocks.now f) from.tick f (due p f from end) (λ (j : ℕ). 1) old new

abbrev pub ValuesPut : Plan → ℕ → Next → ℕ → List ℕ → List ℕ → List ℕ → Type 0
ValuesPut p f from end stored old new =
    Put p.flows (period_in p.clocks.now f) from.tick f (due p f from end) (λ (j : ℕ). get_or stored (from.place + j) 0) old new

-- the words of the ticks before one are in store
abbrev pub StoredTo : Plan → List ℕ → ℕ → List ℕ → Type 0
StoredTo p values begin stored = WordsTo p.flows p.clocks.now values p.ticks begin stored

-- so are the marks and values of the ticks before one, by stored words
abbrev pub MarksTo : Plan → ℕ → List ℕ → Type 0
MarksTo p begin marks = FilledTo p.flows begin (restored_mark (clocks_of p)) marks

abbrev pub ValuesTo : Plan → List ℕ → ℕ → List ℕ → Type 0
ValuesTo p stored begin values = FilledTo p.flows begin (restored_value (clocks_of p) p.ticks stored) values

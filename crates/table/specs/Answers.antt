-- Why a plan comes back: each cause with its number, the four parts of an answer, and what is left in a lent buffer.
use Rattle.std.specs.Prelude.{ℕ, Bool, true, false, List, ◌∷◌, ◌++◌, codes, length, drop}
use Rattle.std.specs.Prelude as std
use Rattle.std.specs.Fmt.{decimal}
use Rattle.table.specs.declared.Answer.{Answer}
use Rattle.table.specs.declared.refusal.Refused.{Refused}
use Rattle.table.specs.declared.refusal.Refusal.{Refusal}
use Rattle.table.specs.declared.refusal.Refusal.TheVariants.{NoRoom, BadCount, CutShort, UnknownKind, OutOfRange, Misplaced, BadFilling}
use Rattle.table.specs.declared.refusal.Refusal.TheVariants.{ClocksDiffer, BeyondLimits, NotPlain, BadView}
use Rattle.table.specs.declared.refusal.Refusal.TheVariants.{TooManyTicks, WrongLog, ShortTrace, Clash, ShortWindow}
use Rattle.table.specs.declared.refusal.Refusal.TheVariants.{WrongTimes, ShortPage, NotDiffering, Unjoined, HasConditions, WrongLength, OffCalendar}

abbrev pub number : Refusal → ℕ
number NoRoom = 10
number BadCount = 11
number CutShort = 12
number UnknownKind = 13
number OutOfRange = 14
number Misplaced = 15
number BadFilling = 16
number ClocksDiffer = 21
number BeyondLimits = 22
number NotPlain = 23
number TooManyTicks = 31
number WrongLog = 32
number ShortTrace = 33
number Clash = 34
number ShortWindow = 35
number WrongTimes = 36
number ShortPage = 37
number NotDiffering = 38
number Unjoined = 39
number BadView = 40
number HasConditions = 41
number WrongLength = 42
number OffCalendar = 43

-- What a piece of work comes to: its result, or the first refusal with the row or flow that it names, 0 where it names none.
pub data Result (A : Type 0) : Type 0 where
  good : A → Result A
  refused : (why : Refusal) (flow : ℕ) → Result A

module _ {A : Type 0} where
  -- a refusal unless the test is passed
  abbrev pub unless : Bool → Refusal → ℕ → Result A → Result A
  unless true why f r = r
  unless false why f r = refused why f

  -- the work that goes on from a result
  abbrev pub then : {B : Type 0} → Result A → (A → Result B) → Result B
  then (good a) go = go a
  then (refused why f) go = refused why f

-- The four parts of an answer. Parts that are not named are 0.
abbrev pub success : ℕ → Answer
success n = record { number = 0; flow = 0; tick = 0; count = n }

abbrev pub numbered : ℕ → ℕ → Answer
numbered n f = record { number = n; flow = f; tick = 0; count = 0 }

abbrev pub refusal : Refusal → ℕ → Answer
refusal why f = numbered (number why) f

-- a refusal that names a row or flow, and no tick
abbrev pub named : Refusal → ℕ → Refused
named why f = record { why = why; flow = f; tick = 0 }

-- the four parts of what a call answers: its count, or a refusal
abbrev pub parts : std.Result ℕ Refused → Answer
parts (std.Ok n) = success n
parts (std.Err r) = record { number = number r.why; flow = r.flow; tick = r.tick; count = 0 }

-- what is printed of an answer: its four parts in decimal, a blank between them
abbrev pub answer_text : Answer → List ℕ
answer_text a = decimal a.number ++ (32 ∷ (decimal a.flow ++ (32 ∷ (decimal a.tick ++ (32 ∷ decimal a.count)))))

-- what is printed of a refusal: its cause's number, the row or flow and the tick
abbrev pub refused_text : Refused → List ℕ
refused_text r = codes "refused with " ++ (decimal (number r.why) ++ (codes " at flow " ++ (decimal r.flow ++ (codes ", tick " ++ decimal r.tick))))

-- xs from the first cell on, and the rest as it was
abbrev pub over : List ℕ → List ℕ → List ℕ
over xs old = xs ++ drop (length xs) old

module _ {A : Type 0} where
  -- what a call answers that counts its result
  abbrev pub answer : (A → ℕ) → Result A → Answer
  answer size (good a) = success (size a)
  answer size (refused why f) = refusal why f

  -- what a call leaves in a lent buffer: only the cells that its result needs are written, and none on a refusal
  abbrev pub leaves : (A → List ℕ) → Result A → List ℕ → List ℕ
  leaves cells (good a) old = over (cells a) old
  leaves cells (refused why f) old = old

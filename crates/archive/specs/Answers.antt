-- What storing and restoring answer, and leave in the lent buffers.
use Rattle.std.specs.Prelude.{◌≡◌, ℕ, ◌*◌, Bool, ◌&&◌, List, length, leb, eqb}
use Rattle.table.specs.declared.Answer.{Answer}
use Rattle.table.specs.declared.refusal.Refusal.TheVariants.{TooManyTicks, HasConditions, WrongLength, OffCalendar}
use Rattle.table.specs.Answers.{Result, good, unless, then, answer, leaves}
use Rattle.checker.specs.Clocks.{Clock}
use Rattle.checker.specs.Answers.{clocks_for}
use Rattle.semantics.specs.Answers.{max_ticks}
use Rattle.calendar.specs.Calendar.{free}
use Rattle.archive.specs.Traces.{words_before, stored_of, trace_fits, restored_mark, restored_value, cells_of}

-- the clocks of a plan whose traces of so many ticks can be stored: the check's refusals, then 31 and 41
unfoldable pub archiving : ℕ → List ℕ → ℕ → Result (List Clock)
archiving m words ticks =
    then (clocks_for m words) λ ks.
    unless (leb ticks max_ticks) TooManyTicks 0
    (unless (free m words) HasConditions 0
    (good ks))

-- how many words a trace has in store
abbrev pub size_answer : ℕ → List ℕ → ℕ → Answer
size_answer m words ticks = answer (λ (ks : List Clock). words_before ks ticks m) (archiving m words ticks)

-- so many marks, values and stored words are exactly as many as the plan and the ticks ask
abbrev pub lengths_fit : ℕ → ℕ → List Clock → ℕ → ℕ → ℕ → Bool
lengths_fit m ticks ks marks values stored =
    eqb marks (ticks * m) && (eqb values (ticks * m) && eqb stored (words_before ks ticks m))

-- the words of a trace, for a buffer of so many: 42 and 43
unfoldable pub stored_by : ℕ → ℕ → List ℕ → List ℕ → ℕ → List Clock → Result (List ℕ)
stored_by m ticks marks values room ks =
    unless (lengths_fit m ticks ks (length marks) (length values) room) WrongLength 0
    (unless (trace_fits ks m marks values ticks m) OffCalendar 0
    (good (stored_of ks m values ticks m)))

unfoldable pub storing : ℕ → List ℕ → ℕ → List ℕ → List ℕ → ℕ → Result (List ℕ)
storing m words ticks marks values room = then (archiving m words ticks) (stored_by m ticks marks values room)

abbrev pub store_answer : ℕ → List ℕ → ℕ → List ℕ → List ℕ → ℕ → Answer
store_answer m words ticks marks values room = answer length (storing m words ticks marks values room)

abbrev pub stored_after : ℕ → List ℕ → ℕ → List ℕ → List ℕ → List ℕ → List ℕ
stored_after m words ticks marks values old = leaves (λ (l : List ℕ). l) (storing m words ticks marks values (length old)) old

-- the clocks by which so many words are restored into so many marks and values: 42
unfoldable pub restored_by : ℕ → ℕ → ℕ → ℕ → ℕ → List Clock → Result (List Clock)
restored_by m ticks stored marks values ks = unless (lengths_fit m ticks ks marks values stored) WrongLength 0 (good ks)

unfoldable pub restoring : ℕ → List ℕ → ℕ → ℕ → ℕ → ℕ → Result (List Clock)
restoring m words ticks stored marks values = then (archiving m words ticks) (restored_by m ticks stored marks values)

-- by what restoring comes to: what it answers, and leaves in marks and values
module _ (m ticks : ℕ) (found : Result (List Clock)) where
  abbrev pub cells_answer : Answer
  cells_answer = answer (λ (ks : List Clock). ticks * m) found

  abbrev pub marks_back : List ℕ → List ℕ
  marks_back marks = leaves (λ (ks : List Clock). cells_of m (restored_mark ks) ticks) found marks

  abbrev pub values_back : List ℕ → List ℕ → List ℕ
  values_back stored values = leaves (λ (ks : List Clock). cells_of m (restored_value ks ticks stored) ticks) found values

  -- all three together
  pub record Restored (stored marks values marks' values' : List ℕ) (r : Answer) : Type 0 where
    pub answered : r ≡ cells_answer
    pub marked : marks' ≡ marks_back marks
    pub valued : values' ≡ values_back stored values

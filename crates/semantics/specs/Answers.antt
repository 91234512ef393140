-- What the run answers, and leaves in marks and values.
use Rattle.std.specs.Prelude.{ℕ, ◌*◌, ◌&&◌, List, map, length, leb, eqb}
use Rattle.table.specs.declared.Answer.{Answer}
use Rattle.table.specs.declared.refusal.Refusal.TheVariants.{TooManyTicks, WrongLog, ShortTrace, Clash}
use Rattle.table.specs.Answers.{Result, good, refused, unless, then, number, success, refusal, leaves}
use Rattle.table.specs.Bits.{bit}
use Rattle.table.specs.Plain.{table_of}
use Rattle.semantics.specs.Cells.{Cell, mark, value}
use Rattle.semantics.specs.Runs.{inputs, Ran, done, clashed, run, trace}

abbrev pub max_ticks : ℕ
max_ticks = 131071

-- what a run comes to over traces of so many marks and values
unfoldable pub running : ℕ → List ℕ → List ℕ → ℕ → ℕ → ℕ → Result Ran
running m words log ticks marks values =
    then (table_of m words) λ rows.
    unless (leb ticks max_ticks) TooManyTicks 0
    (unless (eqb (length log) (ticks * inputs rows)) WrongLog 0
    (unless (leb (ticks * m) marks && leb (ticks * m) values) ShortTrace 0
    (good (run rows log ticks))))

abbrev pub ran_answer : ℕ → Result Ran → Answer
ran_answer ticks (good (done past)) = success ticks
ran_answer ticks (good (clashed t f now past)) = record { number = number Clash; flow = f; tick = t; count = 0 }
ran_answer ticks (refused why f) = refusal why f

abbrev pub run_answer : ℕ → List ℕ → List ℕ → ℕ → ℕ → ℕ → Answer
run_answer m words log ticks marks values = ran_answer ticks (running m words log ticks marks values)

-- a cell's mark byte
abbrev pub mark_byte : Cell → ℕ
mark_byte c = bit (mark c)

-- marks and values after a run: the cells worked out, and the rest as it was
abbrev pub marks_after : ℕ → List ℕ → List ℕ → ℕ → List ℕ → List ℕ → List ℕ
marks_after m words log ticks marks values =
    leaves (λ (r : Ran). map mark_byte (trace r)) (running m words log ticks (length marks) (length values)) marks

abbrev pub values_after : ℕ → List ℕ → List ℕ → ℕ → List ℕ → List ℕ → List ℕ
values_after m words log ticks marks values =
    leaves (λ (r : Ran). map value (trace r)) (running m words log ticks (length marks) (length values)) values

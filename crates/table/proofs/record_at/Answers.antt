use Prim.Native.Nat.{◌*◌}
use Rattle.table.specs.Rows.{row_size}
use Rattle.table.proofs.Tables.{four_read}
use Rattle.table.proofs.record_at.Goals as goal

pub returns-then-i-words : goal.returns-then-i-words
returns-then-i-words c = four_read c.args.words.now (row_size * c.args.row)

pub returns : goal.returns
returns c =
    rw (c.word_at-4.ensures, c.word_at-3.ensures, c.word_at-2.ensures, c.word_at.ensures)
    (four_read c.args.words.now (row_size * c.args.row))

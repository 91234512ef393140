use Rattle.table.specs.Bits.{bits}
use Rattle.table.proofs.Windows.{take_far, take_wide, take_short, take_got, number_lt}
use Rattle.table.proofs.Cursor.take.Goals as goal

pub returns-then-at-gt-LAST : goal.returns-then-at-gt-LAST
returns-then-at-gt-LAST c =
    let a = c.args in
    take_far (bits a.s.now) a.self.at a.width c.if-at-gt-LAST.true

pub returns-then-w-gt32 : goal.returns-then-w-gt32
returns-then-w-gt32 c =
    let a = c.args in
    take_wide (bits a.s.now) a.self.at a.width c.if-at-gt-LAST.false c.if-w-gt32.true

pub returns-then-s-byte_count : goal.returns-then-s-byte_count
returns-then-s-byte_count c =
    let a = c.args in
    take_short a.s.now a.self.at a.width c.if-at-gt-LAST.false c.if-w-gt32.false
    (rw c.byte_count.ensures at c.if-s-byte_count.true)

pub overflow_cast-result : goal.overflow_cast-result
overflow_cast-result c =
    let a = c.args in
    record { fits = number_lt a.s.now a.self.at a.width c.number_at.result c.if-w-gt32.false c.number_at.ensures }

pub returns : goal.returns
returns c =
    let a = c.args in
    take_got a.s.now a.self.at a.width c.number_at.result c.if-at-gt-LAST.false c.if-w-gt32.false
    (rw c.byte_count.ensures at c.if-s-byte_count.false)
    c.number_at.ensures

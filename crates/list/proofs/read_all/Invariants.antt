-- The bytes that were read so far fit into the buffer, and each turn has read at least one byte more.
use Rattle.std.proofs.Common.{◌-◌, ◌≤◌, length}
use Rattle.list.proofs.read_all.Given as goal

abbrev pub invariant-loop-size : goal.invariant-loop-size
invariant-loop-size g l = l.size ≤ length l.packed

abbrev pub decreases-loop-size : goal.decreases-loop-size
decreases-loop-size g l = length l.packed - l.size

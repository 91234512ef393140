use Rattle.runner.specs.Private.Ready.{numbers, one_of}
use Rattle.std.proofs.Common.{◌≡◌, ◌≤◌, take}
use Rattle.runner.proofs.state.listed.Given as goal

abbrev pub invariant-loop-f : goal.invariant-loop-f
invariant-loop-f l = (l.found ≤ l.f) × (take l.found l.list ≡ numbers (one_of l.kind l.from) l.f l.words)

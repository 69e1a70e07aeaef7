-- The loop's invariant: what i bytes brought is counted, and what the rest brings from here makes the whole.
use Rattle.reader.proofs.Running.{Head}
use Rattle.reader.proofs.listen.Given as goal

abbrev pub invariant-loop-b : goal.invariant-loop-b
invariant-loop-b l = Head l.way l.bytes l.array l.reader l.broken l.whole l.b-index

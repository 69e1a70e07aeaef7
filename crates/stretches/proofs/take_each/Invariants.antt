-- The loop's invariant: i bytes brought nothing, and what the rest brings from here is what all bring.
use Rattle.stretches.proofs.Stretching.{Head}
use Rattle.stretches.proofs.take_each.Given as goal

abbrev pub invariant-loop-i : goal.invariant-loop-i
invariant-loop-i l = Head l.way l.initial.at l.initial.array l.bytes l.array l.at l.i

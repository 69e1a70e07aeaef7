-- What the arguments before the place ask for.
use Rattle.opening.proofs.Words.{Before}
use Rattle.opening.proofs.arguments.Given as goal

abbrev pub invariant-loop-place : goal.invariant-loop-place
invariant-loop-place g l = Before l.asked l.place

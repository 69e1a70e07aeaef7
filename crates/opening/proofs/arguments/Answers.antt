-- One argument more is told.
use Rattle.opening.proofs.Words.{one_more_lem}
use Rattle.opening.proofs.arguments.Goals as goal

pub loop-place-preserved : goal.loop-place-preserved
loop-place-preserved g c = one_more_lem c.loop-place.asked c.loop-place.place _ _ c.loop-place.invariant c.asked_with-asked.ensures

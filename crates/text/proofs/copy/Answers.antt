use Rattle.text.proofs.Laws.{sets_least}
use Rattle.text.proofs.copy.Goals as goal

pub returns : goal.returns
returns c = rw c.copy_from_slice.ensures.after (sets_least _ _ _ c.min-n.ensures)

use mathlib.Core.Path.{◌∙◌}
use native.Mathlib.Omega.{arith}
use lib.Seq.{length-sets}
use Rattle.text.proofs.Fours.{four_turn}
use Rattle.text.proofs.write_fours.Goals as goal

pub loop-i-preserved : goal.loop-i-preserved
loop-i-preserved c = (
  rw (c.put_four.ensures, length-sets) (omega arith),
  rw c.put_four.ensures (four_turn _ _ _ _ (omega arith) ∙ c.loop-i.invariant.1),
)

-- As many zeros as there are.
use Rattle.std.proofs.Common.{ℕ}
use lib.ListN.{length-replicate}
use Rattle.printer.proofs.out_room.Goals as goal

pub returns : goal.returns
returns c = length-replicate {A = ℕ} 3555328 0

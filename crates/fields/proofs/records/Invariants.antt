-- What is left gets shorter.
use Rattle.std.proofs.Common.{length}
use Rattle.fields.proofs.records.Given as goal

abbrev pub decreases-loop-behind : goal.decreases-loop-behind
decreases-loop-behind l = length l.s

-- The buffers keep their lengths.
use Rattle.std.proofs.Common.{◌≡◌, length}
use Rattle.printer.proofs.run.Given as goal

abbrev pub invariant-loop : goal.invariant-loop
invariant-loop g l = (length l.out ≡ 3555328) × (length l.bytes ≡ 16384)

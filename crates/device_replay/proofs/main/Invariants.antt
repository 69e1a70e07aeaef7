-- The buffers keep their lengths.
use Rattle.std.proofs.Common.{◌≡◌, length}
use Rattle.device_replay.proofs.main.Given as goal

abbrev pub invariant-loop-events : goal.invariant-loop-events
invariant-loop-events l = (length l.event ≡ 5) × ((length l.buf ≡ 65536) × (length l.display ≡ 40))

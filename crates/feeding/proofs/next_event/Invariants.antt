-- The buffer keeps its length, and what was read of the event stands in it. Each turn reads on.
use Rattle.std.proofs.Common.{◌+◌, ◌-◌, ◌≤◌, ◌≡◌, length}
use Rattle.feeding.proofs.next_event.Given as goal

abbrev pub invariant-loop-whole : goal.invariant-loop-whole
invariant-loop-whole l = (length l.event ≡ length l.initial.event) × (l.n ≤ length l.initial.event)

abbrev pub decreases-loop-whole : goal.decreases-loop-whole
decreases-loop-whole l = length l.initial.event + 1 - l.n

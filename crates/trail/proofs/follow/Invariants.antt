-- The loop's invariant: what the rest brings from here is what all bring.
use mathlib.Core.Path.{◌≡◌}
use lib.ListN.{drop}
use Rattle.trail.specs.Trails.{followed}
use Rattle.trail.proofs.follow.Given as goal

abbrev pub invariant-loop-b : goal.invariant-loop-b
invariant-loop-b l = followed l.at l.array (drop l.b-index l.bytes) ≡ followed l.initial.at l.initial.array l.bytes

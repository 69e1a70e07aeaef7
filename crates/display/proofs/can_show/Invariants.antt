use Prim.Native.Nat.{◌+◌, ◌≤◌}
use mathlib.Core.Path.{◌≡◌}
use mathlib.Core.Bool.{false}
use lib.ListN.{length, drop}
use Rattle.display.specs.Display.{plain_from, plain_of, marks_suit}
use Rattle.display.proofs.can_show.Given as goal

-- What is left, behind 10h or not, decides whether the marks suit; the bytes counted and those that are left to count are all of the plain text's.
abbrev pub invariant-loop-b : goal.invariant-loop-b
invariant-loop-b l =
    (l.count ≤ l.b-index) × (marks_suit false l.s ≡ marks_suit l.marked (drop l.b-index l.s)) × (l.count + length (plain_from l.marked (drop l.b-index l.s)) ≡ length (plain_of l.s))

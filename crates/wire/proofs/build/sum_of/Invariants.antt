-- The loop's invariant: the sum so far with that of the rest is the whole sum, up to FFFFh.
use Prim.Native.Nat.{◌+◌, ◌%◌}
use mathlib.Core.Path.{◌≡◌}
use lib.ListN.{drop}
use Rattle.wire.specs.Frame.{total}
use Rattle.wire.proofs.build.sum_of.Given as goal

abbrev pub invariant-loop-b : goal.invariant-loop-b
invariant-loop-b l = (l.sum + total (drop l.b-index l.part)) % 65536 ≡ total l.part % 65536

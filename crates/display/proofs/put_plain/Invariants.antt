use Prim.Native.Nat.{◌+◌, ◌≤◌}
use mathlib.Core.Path.{◌≡◌}
use lib.ListN.{length, drop}
use lib.Seq.{sets}
use Rattle.display.specs.Display.{plain_from, plain_of}
use Rattle.display.proofs.put_plain.Given as goal

-- What of the plain text is left, put behind what was, makes the whole text; the bytes put and those that are left are all of its bytes.
abbrev pub invariant-loop-b : goal.invariant-loop-b
invariant-loop-b l =
    (l.count ≤ l.b-index) × (l.count + length (plain_from l.marked (drop l.b-index l.s)) ≡ length (plain_of l.s)) × (sets l.buf l.count (plain_from l.marked (drop l.b-index l.s)) ≡ sets l.initial.buf 0 (plain_of l.s))

use Prim.Native.Nat.{◌+◌, ◌*◌, ◌≤◌}
use mathlib.Core.Path.{◌≡◌}
use lib.ListN.{length}
use lib.Seq.{sets}
use Rattle.text.specs.Digits.{digits}
use Rattle.text.proofs.write_fours.Given as goal

-- The digits still to be written, put before those that were, make the whole field.
abbrev pub invariant-loop-i : goal.invariant-loop-i
invariant-loop-i l =
    (l.before + l.i * 4 ≤ length l.part) × (sets l.part 0 (digits (l.before + l.i * 4) l.left) ≡ sets l.initial.part 0 (digits l.width l.n))

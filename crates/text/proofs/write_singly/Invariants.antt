use mathlib.Core.Path.{◌≡◌}
use lib.Seq.{sets}
use Rattle.text.specs.Digits.{digits}
use Rattle.text.proofs.write_singly.Given as goal

-- The digits still to be written, put before those that were, make the whole field.
abbrev pub invariant-loop-i : goal.invariant-loop-i
invariant-loop-i l = sets l.part 0 (digits l.i l.left) ≡ sets l.initial.part 0 (digits l.width l.n)

-- The loop's invariant: with the fields from here on put here, all are put; no field has fewer bytes than its comma.
use Prim.Native.Nat.{◌+◌, ◌-◌, ◌≤◌}
use lib.ListN.{length, drop}
use Rattle.sentences.proofs.Filling.{Rest}
use Rattle.unfolding.specs.Answers.{fields_text}
use Rattle.unfolding.proofs.put_fields.Given as goal

abbrev pub invariant-loop-from : goal.invariant-loop-from
invariant-loop-from l =
    (l.i ≤ l.from)
    × (l.from ≤ length l.content + 1)
    × Rest l.initial.buf l.at (fields_text (length l.content) l.html l.code 0 l.content) (fields_text (length l.content - l.i) l.html l.code l.i (drop l.from l.content)) l.buf l.place

abbrev pub decreases-loop-from : goal.decreases-loop-from
decreases-loop-from l = length l.content + 1 - l.from

-- The loop's invariant: what i bytes brought is counted, and what the rest brings from here makes the whole.
use mathlib.Core.Path.{◌≡◌}
use Prim.Native.Nat.{◌+◌}
use native.Mathlib.Omega.{arith}
use Rattle.reader.specs.Private.{broken_of, whole_of}
use Rattle.reader.proofs.Running.{head_turn}
use Rattle.reader.proofs.listen.Goals.{in-Nothing, in-Broken, in-Whole}
use Rattle.reader.proofs.listen.Goals as goal

pub loop-b-preserved : goal.loop-b-preserved
loop-b-preserved c =
    let at = c.loop-b in
    let taken = c.take_byte-taken in
    let more-broken : c.match-taken.broken ≡ at.broken + broken_of taken.result.heard =
    elim c.match-taken.branch [
      | in-Nothing w ↦ rw w.in-Nothing.is (omega arith)
      | in-Broken w ↦ rw w.in-Broken.is (omega arith)
      | in-Whole w ↦ rw w.in-Whole.is (omega arith)
    ] in
    let more-whole : c.match-taken.whole ≡ at.whole + whole_of taken.result.heard =
    elim c.match-taken.branch [
      | in-Nothing w ↦ rw w.in-Nothing.is (omega arith)
      | in-Broken w ↦ rw w.in-Broken.is (omega arith)
      | in-Whole w ↦ rw w.in-Whole.is (omega arith)
    ] in
    head_turn c.args.way c.args.bytes.now at.array at.reader at.broken at.whole at.b-index at.invariant c.loop-b-test.true
    _ taken.result taken.ensures.value taken.ensures.array_after (omega arith) _ _ more-broken more-whole

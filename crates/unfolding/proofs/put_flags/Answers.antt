-- The loop's invariant: with the status bytes from here on put here, all are put.
use native.Mathlib.Omega.{arith}
use Rattle.sentences.proofs.Filling.{rest_start, rest_turn, rest_done}
use Rattle.unfolding.proofs.Flags.{flags_next, flags_done}
use Rattle.unfolding.proofs.put_flags.Goals as goal

pub loop-i-init : goal.loop-i-init
loop-i-init c = rest_start _ c.min-end.ensures

pub loop-i-preserved : goal.loop-i-preserved
loop-i-preserved c =
    rest_turn c.loop-i.invariant _ _ (flags_next c.args.html c.args.six.now c.loop-i.i (omega arith)) c.put_bits-end.ensures

pub returns : goal.returns
returns c =
    rest_done c.loop-i.invariant (flags_done c.args.html c.args.six.now c.loop-i.i (omega arith))

-- The loop's invariant: with the bits from here on put here, all are put.
use native.Mathlib.Omega.{arith}
use Rattle.sentences.proofs.Filling.{rest_start, rest_turn, rest_done}
use Rattle.unfolding.proofs.Flags.{bits_next, bits_done}
use Rattle.unfolding.proofs.put_bits.Goals as goal

pub loop-bit-init : goal.loop-bit-init
loop-bit-init c = rest_start _ c.min-end.ensures

pub loop-bit-preserved : goal.loop-bit-preserved
loop-bit-preserved c =
    rest_turn c.loop-bit.invariant _ _ (bits_next c.args.html c.loop-bit.bit c.args.place c.loop-bit.above (omega arith)) c.put_flag-end.ensures

pub returns : goal.returns
returns c =
    rest_done c.loop-bit.invariant (bits_done c.args.html c.loop-bit.bit c.args.place c.loop-bit.above (omega arith))

use Rattle.sentences.proofs.Filling.{rest_start, rest_turn, rest_done}
use Rattle.saying.proofs.Flags.{status_next, status_done}
use Rattle.saying.proofs.status.Goals as goal

pub loop-i-init : goal.loop-i-init
loop-i-init c = rest_start _ c.min-end.ensures

pub loop-i-preserved : goal.loop-i-preserved
loop-i-preserved c =
    rest_turn c.loop-i.invariant _ _ (status_next c.args.bytes.now c.loop-i.i c.loop-i-test.true) c.bits-end.ensures

pub returns : goal.returns
returns c =
    rest_done c.loop-i.invariant (status_done c.args.bytes.now c.loop-i.i c.loop-i-test.false)

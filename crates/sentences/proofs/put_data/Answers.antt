use Rattle.sentences.proofs.Filling.{rest_start, rest_turn, rest_done, data_next, data_done}
use Rattle.sentences.proofs.put_data.Goals as goal

pub loop-b-init : goal.loop-b-init
loop-b-init c = rest_start _ c.min-place.ensures

pub loop-b-preserved : goal.loop-b-preserved
loop-b-preserved c =
    rest_turn c.loop-b.invariant _ _ (data_next c.args.bytes.now c.loop-b.b-index c.loop-b-test.true) c.put_shown-place.ensures

pub returns : goal.returns
returns c =
    rest_done c.loop-b.invariant (data_done c.args.bytes.now c.loop-b.b-index c.loop-b-test.false)

use Rattle.line.proofs.Calling.{listens}
use Rattle.line.proofs.listen.Goals as goal

pub returns : goal.returns
returns c =
    let all = listens c.args.line c.args.frame.now c.args.bytes.now c.take_stretch-stretch.result _ c.take_stretch-stretch.ensures _ c.call_for.ensures in record { value = all.0; frame_after = all.1 }

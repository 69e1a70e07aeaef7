use Rattle.kept.proofs.switch_on.Goals as goal

pub returns : goal.returns
returns c = rw c.switch_on-device.ensures

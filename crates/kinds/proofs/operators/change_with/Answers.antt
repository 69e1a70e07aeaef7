use Rattle.kinds.proofs.Openings.{no_new, changed}
use Rattle.kinds.proofs.operators.change_with.Goals as goal

pub returns-in_default : goal.returns-in_default
returns-in_default c =
    no_new c.args.op c.args.old c.args.new.now (cc)

pub returns : goal.returns
returns c =
    changed c.args.op c.args.old c.args.new.now c.in-Some.p (cc)

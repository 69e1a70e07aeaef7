use Rattle.machine.proofs.switch_on.Goals as goal

pub returns : goal.returns
returns c = rw (c.fresh-line.ensures, c.calm-guard.ensures)

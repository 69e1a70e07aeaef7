use Rattle.machine.proofs.not_begun.Goals as goal

pub returns : goal.returns
returns c = rw (c.blank_line.ensures)

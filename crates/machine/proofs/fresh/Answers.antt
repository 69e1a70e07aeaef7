use Rattle.machine.proofs.fresh.Goals as goal

pub returns : goal.returns
returns c = rw (c.fresh-line.ensures, c.fresh-books.ensures, c.fresh-guard.ensures)

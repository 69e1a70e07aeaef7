use Rattle.machine.proofs.ask_nothing.Goals as goal

pub returns : goal.returns
returns c = rw (c.no_search.ensures)

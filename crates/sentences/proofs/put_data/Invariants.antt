use lib.ListN.{drop}
use Rattle.sentences.specs.Filled.{escaped}
use Rattle.sentences.proofs.Filling.{Rest}
use Rattle.sentences.proofs.put_data.Given as goal

abbrev pub invariant-loop-b : goal.invariant-loop-b
invariant-loop-b l = Rest l.initial.buf l.at (escaped l.bytes) (escaped (drop l.b-index l.bytes)) l.buf l.place

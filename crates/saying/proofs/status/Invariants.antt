use lib.ListN.{drop}
use Rattle.sentences.proofs.Filling.{Rest}
use Rattle.saying.specs.Answers.{status_text}
use Rattle.saying.proofs.status.Given as goal

abbrev pub invariant-loop-i : goal.invariant-loop-i
invariant-loop-i l = Rest l.initial.buf l.at (status_text 0 l.bytes) (status_text l.i (drop l.i l.bytes)) l.buf l.end

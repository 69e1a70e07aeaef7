use Prim.Native.Nat.{◌≤◌}
use lib.ListN.{drop}
use Rattle.sentences.specs.Filled.{filled}
use Rattle.sentences.proofs.Filling.{Rest}
use Rattle.sentences.proofs.fill.Given as goal

abbrev pub invariant-loop-b : goal.invariant-loop-b
invariant-loop-b l =
    (l.next ≤ l.b-index) × Rest l.initial.buf l.at (filled l.sentence l.word l.figures) (filled (drop l.b-index l.sentence) l.word (drop l.next l.figures)) l.buf l.place

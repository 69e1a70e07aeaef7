-- The loop's invariant: with the status bytes from here on put here, all are put.
use lib.ListN.{drop}
use Rattle.sentences.proofs.Filling.{Rest}
use Rattle.unfolding.specs.Answers.{flags_text}
use Rattle.unfolding.proofs.put_flags.Given as goal

abbrev pub invariant-loop-i : goal.invariant-loop-i
invariant-loop-i l = Rest l.initial.buf l.at (flags_text l.html 0 l.six) (flags_text l.html l.i (drop l.i l.six)) l.buf l.end

use Prim.Native.Nat.{◌-◌}
use Rattle.sentences.proofs.Filling.{Rest}
use Rattle.saying.specs.Answers.{bits_text}
use Rattle.saying.proofs.bits.Given as goal

abbrev pub invariant-loop-bit : goal.invariant-loop-bit
invariant-loop-bit l = Rest l.initial.buf l.at (bits_text 7 0 l.place l.byte) (bits_text (7 - l.bit) l.bit l.place l.above) l.buf l.end

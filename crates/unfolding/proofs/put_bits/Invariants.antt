-- The loop's invariant: with the bits from here on put here, all are put.
use Prim.Native.Nat.{◌-◌}
use Rattle.sentences.proofs.Filling.{Rest}
use Rattle.unfolding.specs.Answers.{bits_text}
use Rattle.unfolding.proofs.put_bits.Given as goal

abbrev pub invariant-loop-bit : goal.invariant-loop-bit
invariant-loop-bit l =
    Rest l.initial.buf l.at (bits_text l.html 7 0 l.place l.byte) (bits_text l.html (7 - l.bit) l.bit l.place l.above) l.buf l.end

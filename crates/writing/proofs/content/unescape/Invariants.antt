use Rattle.writing.proofs.Saying.{Head}
use Rattle.writing.proofs.content.unescape.Given as goal

-- What was read and put so far, and where reading stands, are those of the bytes before i.
abbrev pub invariant-loop-b : goal.invariant-loop-b
invariant-loop-b l = Head l.s l.initial.buf l.buf l.stand l.count l.b-index

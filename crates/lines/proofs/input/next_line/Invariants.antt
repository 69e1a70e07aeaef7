-- The bytes read so far stand at the front of the line.
use Rattle.lines.proofs.Gathering.{Held}
use Rattle.lines.proofs.input.next_line.Given as goal

abbrev pub invariant-loop : goal.invariant-loop
invariant-loop l = Held l.fn.line l.line l.count l.counter

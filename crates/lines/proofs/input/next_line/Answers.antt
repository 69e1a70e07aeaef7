-- A byte more stands at the front of the line.
use Rattle.std.proofs.Common.{rules}
use Rattle.lines.proofs.Gathering.{held_more}
use Rattle.lines.proofs.input.next_line.Goals as goal

pub loop-preserved : goal.loop-preserved
loop-preserved c =
    held_more _ _ _ _ _ c.read.new.buf _ c.loop.invariant (search rules) (search rules) c.gather-gathered.ensures.value c.gather-gathered.ensures.line_after

use mathlib.Core.Path.{◌≡◌}
use mathlib.Core.Bool.{cond}
use Rattle.words.proofs.Short.{command_short}
use Rattle.words.specs.Names.{command_word}
use Rattle.sentences.proofs.Putting.{put_as, put_then}
use Rattle.telling.proofs.Choosing.{heading_as}
use Rattle.telling.proofs.heading.Goals as goal
use Rattle.telling.proofs.heading.Goals.{then-brief, else-brief}

pub returns : goal.returns
returns c =
    let row : c.if-brief.row ≡ cond c.args.brief 1 0 =
    elim c.if-brief.branch [ then-brief w ↦ rw w.if-brief.true w.row-is | else-brief w ↦ rw w.if-brief.false w.row-is ] in
    put_then c.put-next.ensures (put_as c.worded.ensures (heading_as c.args.brief c.if-brief.row c.command_word.result (command_word c.args.code) row c.command_word.ensures (command_short c.args.code)))

use Rattle.sentences.proofs.Putting.{put_then}
use Rattle.entries.proofs.put_said.Goals as goal

pub returns : goal.returns
returns c =
    put_then c.put_labelled-told.ensures (put_then c.fill-end.ensures c.put_close.ensures)

use Rattle.sentences.proofs.Putting.{put_then}
use Rattle.entries.proofs.put_letters.Goals as goal

pub returns : goal.returns
returns c =
    put_then (put_then c.put-next.ensures c.put_letters-end.ensures) c.put_close.ensures

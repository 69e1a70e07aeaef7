use Rattle.sentences.proofs.Putting.{put_then}
use Rattle.pages.proofs.put_labelled.Goals as goal

pub returns : goal.returns
returns c =
    put_then (put_then c.put_either-first.ensures c.put_label-second.ensures) c.put_either.ensures

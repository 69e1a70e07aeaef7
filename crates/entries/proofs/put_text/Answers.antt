use Rattle.sentences.proofs.Putting.{put_then}
use Rattle.entries.proofs.put_text.Goals as goal

pub returns : goal.returns
returns c =
    put_then c.put_labelled-told.ensures c.put_letters.ensures

use Rattle.sentences.proofs.Putting.{put_then}
use Rattle.passages.proofs.put_names.Goals as goal

pub returns : goal.returns
returns c =
    put_then c.put_item-next.ensures c.put_item.ensures

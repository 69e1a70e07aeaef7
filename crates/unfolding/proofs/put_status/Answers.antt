use Rattle.sentences.proofs.Putting.{put_then}
use Rattle.unfolding.proofs.put_status.Goals as goal

pub returns : goal.returns
returns c =
    put_then c.put_bytes-next.ensures c.put_flags.ensures

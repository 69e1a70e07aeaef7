use Rattle.sentences.proofs.Putting.{put_then}
use Rattle.pages.proofs.put_between.Goals as goal

pub returns : goal.returns
returns c = put_then (put_then c.put_hex-first.ensures c.put-to.ensures) c.put_hex.ensures

use Rattle.sentences.proofs.Putting.{put_then}
use Rattle.pages.proofs.put_byte.Goals as goal

pub returns : goal.returns
returns c = put_then c.put-next.ensures c.put_hex.ensures

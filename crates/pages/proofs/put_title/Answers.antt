use Rattle.sentences.proofs.Putting.{put_then}
use Rattle.pages.proofs.put_title.Goals as goal

pub returns : goal.returns
returns c = put_then (put_then (put_then (put_then c.put-word.ensures c.put_number-number.ensures) c.put-colon.ensures) c.put_name-named.ensures) c.put_kind.ensures

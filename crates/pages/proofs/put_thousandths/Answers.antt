use Rattle.sentences.proofs.Putting.{put_then}
use Rattle.pages.proofs.put_thousandths.Goals as goal

pub returns : goal.returns
returns c = put_then (put_then c.put_number-whole.ensures c.put-point.ensures) c.put_digits.ensures

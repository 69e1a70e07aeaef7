use Rattle.sentences.proofs.Putting.{put_then}
use Rattle.sentences.proofs.put_leva.Goals as goal

pub returns : goal.returns
returns c =
    put_then c.put_number-whole.ensures (put_then c.put-point.ensures c.put_digits.ensures)

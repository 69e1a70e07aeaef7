use Rattle.sentences.proofs.Putting.{put_as, put_then}
use Rattle.saying.proofs.named_flag.Goals as goal

pub returns : goal.returns
returns c =
    put_as (put_then c.put-next.ensures c.put-2.ensures) (rw (← c.is.ensures, c.if-word-is.false))

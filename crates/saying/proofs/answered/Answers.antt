use Rattle.sentences.proofs.Putting.{put_as, put_then}
use Rattle.saying.proofs.Flags.{answer_as_lem}
use Rattle.saying.proofs.answered.Goals as goal

pub returns : goal.returns
returns c =
    put_as (put_then (put_then c.opening-next.ensures c.status-last.ensures) c.plain.ensures)
    (answer_as_lem c.args.brief c.args.all.now c.verdict_in-number.result c.verdict_in-number.ensures c.if-all-lt6.false)

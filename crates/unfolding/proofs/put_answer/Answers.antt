use lib.ListN.{length}
use borrow.Author.Tests.{lt-ltb}
use Rattle.sentences.proofs.Putting.{put_as, put_then}
use Rattle.unfolding.proofs.Flags.{answer_as_lem}
use Rattle.unfolding.proofs.put_answer.Goals as goal

pub returns-then-given-lt17 : goal.returns-then-given-lt17
returns-then-given-lt17 c =
    put_as c.put.ensures (rw (lt-ltb (length c.args.given.now) 17 c.if-given-lt17.true))

pub returns : goal.returns
returns c =
    put_as (put_then (put_then c.put_given-told.ensures c.put_content-next.ensures) c.put_status.ensures)
    (answer_as_lem c.args.html c.args.code c.args.given.now c.if-given-lt17.false)

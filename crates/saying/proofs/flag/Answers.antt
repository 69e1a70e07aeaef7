use Rattle.saying.proofs.Choosing.{flag_as}
use Rattle.sentences.proofs.Putting.{put_as}
use Rattle.saying.proofs.flag.Goals as goal

pub returns-then-set : goal.returns-then-set
returns-then-set c =
    put_as c.named_flag.ensures (flag_as c.args.set c.args.place c.args.bit c.status_word-named.result c.status_word-named.ensures c.front.result.now c.front.ensures c.if-set.true)

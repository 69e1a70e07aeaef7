use Rattle.sentences.proofs.Putting.{put_as}
use Rattle.unfolding.proofs.Flags.{flag_as}
use Rattle.unfolding.proofs.put_flag.Goals as goal

pub returns-then-set : goal.returns-then-set
returns-then-set c =
    put_as c.put_word.ensures
    (flag_as c.args.html c.args.set c.args.place c.args.bit c.status_word-name.result c.status_word-name.ensures c.front.result.now c.front.ensures c.if-set.true)

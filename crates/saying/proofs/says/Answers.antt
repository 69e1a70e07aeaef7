use Rattle.sentences.proofs.Putting.{put_as}
use Rattle.saying.proofs.Choosing.{says_other}
use Rattle.saying.proofs.says.Goals as goal

pub returns-in_default : goal.returns-in_default
returns-in_default c =
    put_as c.plain.ensures (says_other c.args.brief c.args.word c.args.got.now c.say_row.result c.say_row.ensures c.in_default.not-Answered)

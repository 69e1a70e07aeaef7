use mathlib.Core.List.{[], ◌∷◌}
use Rattle.words.proofs.Short.{reply_short}
use Rattle.words.specs.Names.{reply_word}
use Rattle.sentences.proofs.Putting.{put_as, put_then}
use Rattle.phrases.proofs.Wording.{worded_as}
use Rattle.saying.proofs.opening.Goals as goal

pub returns-then-brief : goal.returns-then-brief
returns-then-brief c =
    let n = c.args.number in
    put_as (put_then (put_as c.worded-next.ensures (worded_as 17 c.reply_word.result (reply_word n) (n ∷ []) c.reply_word.ensures (reply_short n))) c.plain.ensures) (rw c.if-brief.true)

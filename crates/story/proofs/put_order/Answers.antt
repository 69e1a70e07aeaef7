use mathlib.Core.Path.{ap}
use lib.ListN.{get_or}
use Rattle.sentences.proofs.Putting.{put_as, put_then}
use Rattle.passages.specs.Passages.{whole_text, asked_text}
use Rattle.story.proofs.put_order.Goals as goal

pub returns : goal.returns
returns c =
    let kind = put_as c.put_whole-whole.ensures (ap (λ kind. whole_text c.args.html kind c.args.trail c.args.shadow.now c.args.byte) c.kind_of-kind.ensures) in
    let content = put_as c.put_asked-asked.ensures (ap (asked_text c.args.html (get_or c.args.shadow.now 2 0)) c.data_of-content.ensures) in
    let replied = put_then (put_then (put_then kind content) c.put_reply-reply.ensures) c.put_reason-why.ensures in
    put_then (put_then (put_then replied c.put_shown-shown.ensures) c.put_answer-answer.ensures) c.put_end.ensures

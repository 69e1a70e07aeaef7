use Rattle.sentences.proofs.Putting.{put_then}
use Rattle.story.proofs.put_repeated.Goals as goal

pub returns : goal.returns
returns c =
    put_then (put_then (put_then c.put_whole-whole.ensures c.put_reply-reply.ensures) c.put_given-answer.ensures) c.put_end.ensures

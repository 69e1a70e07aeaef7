use Rattle.sentences.proofs.Putting.{put_then}
use Rattle.story.proofs.put_part.Goals as goal

pub returns : goal.returns
returns c =
    put_then (put_then (put_then c.put_skipped-before.ensures c.put_heading-head.ensures) c.put_frame-frame.ensures) c.put_four.ensures

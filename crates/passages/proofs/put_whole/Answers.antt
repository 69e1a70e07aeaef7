use Rattle.sentences.proofs.Putting.{put_then}
use Rattle.passages.proofs.put_whole.Goals as goal

pub returns : goal.returns
returns c =
    put_then (put_then (put_then c.put_skipped-before.ensures c.put_command-head.ensures) c.put_frame-next.ensures) c.put_names.ensures

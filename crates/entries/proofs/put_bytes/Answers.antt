use Rattle.sentences.proofs.Putting.{put_then}
use Rattle.entries.proofs.put_bytes.Goals as goal

pub returns : goal.returns
returns c =
    put_then c.put_labelled-told.ensures
    (put_then (put_then (put_then c.put_hexes-one.ensures c.put_hexes-two.ensures) c.put_hexes-end.ensures) c.put_close.ensures)

use lib.Dec.{eqb}
use Rattle.sentences.proofs.Putting.{put_as, put_then}
use Rattle.telling.proofs.Choosing.{way_as}
use Rattle.telling.proofs.way.Goals as goal

pub returns : goal.returns
returns c =
    put_then (put_as c.sentence-next.ensures (way_as c.args.answer (eqb c.args.count 1) c.way_row.result _ c.way_row.ensures)) c.fate.ensures

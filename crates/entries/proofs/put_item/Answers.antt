use mathlib.Core.Path.{sym, ap}
use Rattle.sentences.proofs.Putting.{put_as, put_then}
use Rattle.entries.specs.Entries.{item_text}
use Rattle.entries.proofs.put_item.Goals as goal

pub returns : goal.returns
returns c =
    put_as (put_then c.put_labelled-told.ensures (put_then (put_then c.put-next.ensures c.put_value-end.ensures) c.put_close.ensures))
    (sym (ap (item_text c.args.html) c.in-Some.is))

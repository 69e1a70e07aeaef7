use mathlib.Core.Path.{ap}
use mathlib.Core.List.{[], ◌∷◌}
use Rattle.items.specs.declared.Label.TheVariants.{Frame}
use Rattle.sentences.proofs.Putting.{put_as}
use Rattle.entries.specs.Entries.{bytes_text}
use Rattle.passages.proofs.put_frame.Goals as goal

pub returns : goal.returns
returns c =
    put_as c.put_bytes.ensures (ap (λ s. bytes_text c.args.html Frame (0x01 ∷ []) s c.args.last.now) c.front-behind.ensures)

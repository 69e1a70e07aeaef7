use mathlib.Core.Path.{refl, ◌∙◌}
use Rattle.words.proofs.Table.{in_table}
use Rattle.sentences.proofs.Putting.{put_as}
use Rattle.phrases.specs.Sentences.{wrongs}
use Rattle.phrases.proofs.wrong.Goals as goal

pub returns : goal.returns
returns c =
    put_as c.fill.ensures (rw (c.row_of-row.ensures ∙ in_table wrongs refl _ refl c.args.why))

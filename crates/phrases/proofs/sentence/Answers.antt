use mathlib.Core.Path.{refl, ◌∙◌}
use Rattle.words.proofs.Table.{in_table}
use Rattle.sentences.proofs.Putting.{put_as}
use Rattle.phrases.specs.Sentences.{sentences}
use Rattle.phrases.proofs.sentence.Goals as goal

pub returns : goal.returns
returns c =
    put_as c.fill.ensures (rw (c.row_of-row.ensures ∙ in_table sentences refl _ refl c.args.k))

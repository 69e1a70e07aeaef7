use mathlib.Core.Path.{ap, ◌∙◌}
use Rattle.words.specs.Words.{words_of}
use Rattle.words.proofs.rows.row.Goals as goal

pub returns : goal.returns
returns c = c.words_of.ensures ∙ ap words_of c.row_of.ensures

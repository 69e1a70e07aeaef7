use borrow.Author.Tests.{ne_eqb}
use mathlib.Core.Path.{◌∙◌}
use mathlib.Core.List.{[]}
use Rattle.words.proofs.Short.{reason_short}
use Rattle.words.specs.Names.{reason_word}
use Rattle.sentences.proofs.Putting.{put_as}
use Rattle.phrases.proofs.Wording.{worded_as}
use Rattle.telling.proofs.why.Goals as goal

pub returns : goal.returns
returns c =
    let test = ne_eqb c.args.number 0 c.if-number-eq0.false in
    put_as c.worded.ensures (worded_as 14 c.reason_word.result (reason_word c.args.reason) [] c.reason_word.ensures (reason_short c.args.reason) ∙ rw test)

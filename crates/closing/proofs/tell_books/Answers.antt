use mathlib.Core.Path.{ap}
use mathlib.Core.List.{[]}
use Rattle.sentences.specs.Filled.{filled}
use Rattle.sentences.proofs.Putting.{put_as, put_then}
use Rattle.phrases.specs.Sentences.{figures}
use Rattle.closing.proofs.Opening.{open_as}
use Rattle.closing.proofs.tell_books.Goals as goal

pub returns : goal.returns
returns c =
    let b = c.args.books in
    put_then (put_as c.sentence-next.ensures (ap (filled figures []) c.figures_of.ensures))
    (put_as c.sentence.ensures (open_as b.opened c.open_row.result _ c.open_row.ensures))

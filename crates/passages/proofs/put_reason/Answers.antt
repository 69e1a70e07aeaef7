use mathlib.Core.Path.{ap, ◌∙◌}
use mathlib.Core.List.{[]}
use borrow.Author.Tests.{eq-eqb, ne_eqb}
use Rattle.letters.specs.Letters.{bytes}
use Rattle.items.specs.declared.Label.TheVariants.{Reason}
use Rattle.words.proofs.Short.{in_front, reason_short}
use Rattle.words.specs.Names.{reason_word}
use Rattle.sentences.proofs.Putting.{put_as}
use Rattle.entries.specs.Entries.{said_text}
use Rattle.passages.proofs.put_reason.Goals as goal

pub returns-then-number-eq0 : goal.returns-then-number-eq0
returns-then-number-eq0 c =
    put_as c.put.ensures (rw (eq-eqb c.args.number 0 c.if-number-eq0.true))

pub returns : goal.returns
returns c =
    let word = c.front-word.ensures ∙ in_front c.reason_word-name.result (reason_word c.args.reason) c.reason_word-name.ensures (reason_short c.args.reason) in
    put_as c.put_said.ensures (ap (λ w. said_text c.args.html Reason (bytes " ~") w []) word ∙ rw (ne_eqb c.args.number 0 c.if-number-eq0.false))

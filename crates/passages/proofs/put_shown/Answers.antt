use mathlib.Core.Path.{sym, ap, ◌∙◌}
use Rattle.items.specs.declared.Label.TheVariants.{OnDisplay}
use Rattle.captions.specs.Captions.{label_word}
use Rattle.sentences.proofs.Putting.{put_as}
use Rattle.entries.specs.Entries.{letters_text}
use Rattle.passages.specs.Passages.{shown_text}
use Rattle.passages.proofs.put_shown.Goals as goal

pub returns-in-None : goal.returns-in-None
returns-in-None c =
    put_as c.put.ensures (sym (ap (λ d. shown_text c.args.html d c.args.display.now) c.in-None.is))

pub returns-in-Some : goal.returns-in-Some
returns-in-Some c =
    put_as c.put_text.ensures
    (ap (letters_text c.args.html (label_word OnDisplay)) c.front.ensures ∙ sym (ap (λ d. shown_text c.args.html d c.args.display.now) c.in-Some.is))

use mathlib.Core.Path.{ap, ◌∙◌}
use Rattle.items.specs.Asked.{asked_of}
use Rattle.items.specs.declared.Label.TheVariants.{Text, SecondText}
use Rattle.sentences.proofs.Putting.{put_as, put_then, put_length}
use Rattle.entries.specs.Entries.{four_text, some_text}
use Rattle.passages.proofs.put_asked.Goals as goal

pub returns : goal.returns
returns c =
    let html = c.args.html in
    let one = put_as c.put_some-one.ensures (ap (some_text html Text) c.first_text-first.ensures) in
    let two = put_as c.put_some-two.ensures (ap (some_text html SecondText) c.second_text-second.ensures) in
    let rest = put_as c.put_four.ensures (ap (four_text html) (c.asked_of-lines.ensures ∙ ap asked_of c.parse.ensures)) in
    put_then (put_then (put_then c.put_some-told.ensures one) two) rest

pub shape_of-buf : goal.shape_of-buf
shape_of-buf c = put_length (returns c)

use mathlib.Core.Path.{ap, ◌∙◌}
use Rattle.words.proofs.Short.{in_front, field_short}
use Rattle.words.specs.Fields.{field_word}
use Rattle.sentences.proofs.Putting.{put_as}
use Rattle.entries.specs.Entries.{letters_text}
use Rattle.unfolding.proofs.put_named.Goals as goal

pub returns : goal.returns
returns c =
    let word = c.front.ensures ∙ in_front c.field_word-name.result (field_word c.args.code c.args.i) c.field_word-name.ensures (field_short c.args.code c.args.i) in
    put_as c.put_field.ensures (ap (λ w. letters_text c.args.html w c.args.field.now) word)

use mathlib.Core.Path.{ap, ◌∙◌}
use mathlib.Core.List.{[], ◌∷◌}
use Rattle.letters.specs.Letters.{bytes}
use Rattle.items.specs.declared.Label.TheVariants.{Reply}
use Rattle.words.proofs.Short.{in_front, reply_short}
use Rattle.words.specs.Names.{reply_word}
use Rattle.sentences.proofs.Putting.{put_as}
use Rattle.entries.specs.Entries.{said_text}
use Rattle.passages.proofs.put_reply.Goals as goal

pub returns : goal.returns
returns c =
    let word = c.front-word.ensures ∙ in_front c.reply_word-name.result (reply_word c.args.number) c.reply_word-name.ensures (reply_short c.args.number) in
    put_as c.put_said.ensures (ap (λ w. said_text c.args.html Reply (bytes " #, ~") w (c.args.number ∷ [])) word)

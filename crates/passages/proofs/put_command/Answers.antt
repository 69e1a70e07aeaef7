use mathlib.Core.Path.{ap, ◌∙◌}
use Rattle.words.proofs.Short.{in_front, command_short}
use Rattle.words.specs.Names.{command_word}
use Rattle.sentences.proofs.Putting.{put_as}
use Rattle.pages.specs.Pages.{headed}
use Rattle.passages.proofs.put_command.Goals as goal

pub returns : goal.returns
returns c =
    let word = c.front.ensures ∙ in_front c.command_word-name.result (command_word c.args.code) c.command_word-name.ensures (command_short c.args.code) in
    put_as c.put_heading.ensures (ap (headed c.args.html c.args.kind c.args.offset) word)

use Rattle.std.proofs.Common.{rules}
use mathlib.Core.Path.{◌∙◌}
use Rattle.sentences.proofs.Putting.{put_as}
use Rattle.pages.proofs.Letters.{as_shown, one_shown}
use Rattle.pages.proofs.put_letter.Goals as goal

pub returns-in_default : goal.returns-in_default
returns-in_default c =
    let b = c.args.b in
    put_as c.put_data.ensures (one_shown b ∙ as_shown b (search rules) (search rules) (search rules))

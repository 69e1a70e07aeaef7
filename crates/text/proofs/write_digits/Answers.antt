use mathlib.Core.Path.{◌∙◌}
use Rattle.text.proofs.write_digits.Goals as goal

pub returns : goal.returns
returns c =
    c.write_singly-2.ensures ∙ c.write_fours-left.ensures

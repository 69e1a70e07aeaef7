use mathlib.Core.Path.{◌∙◌}
use Rattle.text.proofs.Fours.{four_put, pairs_fit}
use Rattle.text.proofs.put_four.Goals as goal

pub overflow_sub-pairs : goal.overflow_sub-pairs
overflow_sub-pairs c = pairs_fit _ c.requires.four_bound

pub returns : goal.returns
returns c =
    four_put c.args.part.now c.args.at c.args.four _ c.requires.four_bound c.requires.at_in_bounds (c.copy_from_slice.ensures.after ∙ c.to_le_bytes.ensures)

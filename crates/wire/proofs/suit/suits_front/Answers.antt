use mathlib.Core.Path.{◌∙◌}
use Rattle.wire.proofs.Suits.{front_data, front_behind}
use Rattle.wire.proofs.suit.suits_front.Goals as goal

pub returns-then-i-n : goal.returns-then-i-n
returns-then-i-n c = c.may_stand-then-i-n.ensures ∙ front_data c.args.way c.args.n _ _ c.if-at-lt2.false c.if-i-n.true

pub returns : goal.returns
returns c = c.suits_behind.ensures ∙ front_behind c.args.way c.args.n _ _ c.if-at-lt2.false c.if-i-n.false

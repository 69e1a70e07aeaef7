use mathlib.Core.Path.{sym, ◌∙◌}
use Rattle.kinds.proofs.plain.show_text.Goals as goal

pub returns-then-can_show : goal.returns-then-can_show
returns-then-can_show c = rw (sym c.can_show.ensures ∙ c.if-can_show.true)

pub returns : goal.returns
returns c = rw (sym c.can_show.ensures ∙ c.if-can_show.false)

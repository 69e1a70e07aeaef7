use mathlib.Core.Path.{sym, ◌∙◌}
use Rattle.kinds.proofs.plain.text.Goals as goal

pub returns-then-is_text : goal.returns-then-is_text
returns-then-is_text c = rw (sym c.is_text.ensures ∙ c.if-is_text.true)

pub returns : goal.returns
returns c = rw (sym c.is_text.ensures ∙ c.if-is_text.false)

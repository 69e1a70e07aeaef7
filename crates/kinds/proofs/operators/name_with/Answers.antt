use mathlib.Core.Path.{sym, ◌∙◌}
use Rattle.kinds.proofs.operators.name_with.Goals as goal

pub returns-then-is_name : goal.returns-then-is_name
returns-then-is_name c = rw (sym c.is_name.ensures ∙ c.if-is_name.true)

pub returns : goal.returns
returns c = rw (sym c.is_name.ensures ∙ c.if-is_name.false)

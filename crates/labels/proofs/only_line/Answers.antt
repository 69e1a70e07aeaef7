use mathlib.Core.Path.{sym, ◌∙◌}
use Rattle.labels.proofs.Tabs.{only_is, only_none}
use Rattle.labels.proofs.only_line.Goals as goal

pub returns-then-is_text : goal.returns-then-is_text
returns-then-is_text c = only_is c.args.s.now (sym c.is_text.ensures ∙ c.if-is_text.true)

pub returns : goal.returns
returns c = only_none c.args.s.now (sym c.is_text.ensures ∙ c.if-is_text.false)

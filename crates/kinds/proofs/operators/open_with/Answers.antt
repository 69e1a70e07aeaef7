use mathlib.Core.Path.{sym, ◌∙◌}
use Rattle.kinds.proofs.Openings.{no_till, opened}
use Rattle.kinds.proofs.operators.open_with.Goals as goal

pub returns-in_default : goal.returns-in_default
returns-in_default c =
    no_till c.args.op c.args.password c.args.till.now (sym c.digits.ensures ∙ c.in_default.is)

pub returns : goal.returns
returns c =
    opened c.args.op c.args.password c.args.till.now _ (sym c.digits.ensures ∙ c.in-Some.is)

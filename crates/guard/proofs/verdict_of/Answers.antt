use mathlib.Core.Path.{sym, ap, ◌∙◌}
use Rattle.guard.specs.Guard.{verdict_of}
use Rattle.guard.proofs.verdict_of.Goals as goal

pub returns-in-Open : goal.returns-in-Open
returns-in-Open c =
    c.try_password.ensures ∙ sym (ap (verdict_of c.args.guard) c.in-Open.is)

pub returns-in-Change : goal.returns-in-Change
returns-in-Change c =
    c.try_password-in-Change.ensures ∙ sym (ap (verdict_of c.args.guard) c.in-Change.is)

pub returns-in-Name : goal.returns-in-Name
returns-in-Name c =
    c.try_password-in-Name.ensures ∙ sym (ap (verdict_of c.args.guard) c.in-Name.is)

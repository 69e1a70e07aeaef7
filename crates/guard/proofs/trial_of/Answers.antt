use mathlib.Core.Path.{sym, ap}
use Rattle.guard.specs.Guard.{trial_of}
use Rattle.guard.proofs.Verdicts.{nothing_tried}
use Rattle.guard.proofs.trial_of.Goals as goal

pub returns-in-Open : goal.returns-in-Open
returns-in-Open c = sym (ap trial_of c.in-Open.is)

pub returns-in-ChangePassword : goal.returns-in-ChangePassword
returns-in-ChangePassword c = sym (ap trial_of c.in-ChangePassword.is)

pub returns-in-ChangeName : goal.returns-in-ChangeName
returns-in-ChangeName c = sym (ap trial_of c.in-ChangeName.is)

pub returns-in_default : goal.returns-in_default
returns-in_default c = nothing_tried c.args.command c.in_default.not-Open c.in_default.not-ChangePassword c.in_default.not-ChangeName

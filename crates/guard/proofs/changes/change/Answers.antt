use mathlib.Core.Path.{sym, ap, ◌∙◌}
use Rattle.guard.specs.Guard.{changed_by, with_name}
use Rattle.guard.proofs.changes.change.Goals as goal

pub returns-in-Change : goal.returns-in-Change
returns-in-Change c =
    c.with_password.ensures ∙ sym (ap (λ x. changed_by c.args.guard x c.args.content.now) c.in-Change.is)

pub returns-in-Name : goal.returns-in-Name
returns-in-Name c =
    c.with_name.ensures ∙ ap (with_name c.args.guard c.in-Name.op) c.name_in.ensures ∙ sym (ap (λ x. changed_by c.args.guard x c.args.content.now) c.in-Name.is)

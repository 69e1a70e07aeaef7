use mathlib.Core.Path.{sym, ap, ◌∙◌}
use Rattle.guard.specs.Guard.{judged_of, judged_by}
use Rattle.guard.proofs.judge.Goals as goal

pub returns-in-Ok : goal.returns-in-Ok
returns-in-Ok c =
    c.judge_trial.ensures ∙ ap (λ t. judged_of c.args.guard t c.args.content.now) c.trial_of.ensures ∙ sym (ap (λ x. judged_by c.args.guard x c.args.content.now) c.in-Ok.is)

pub returns-in-Err : goal.returns-in-Err
returns-in-Err c =
    sym (ap (λ x. judged_by c.args.guard x c.args.content.now) c.in-Err.is)

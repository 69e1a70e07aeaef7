use mathlib.Core.Path.{sym, ◌∙◌}
use native.Mathlib.Omega.{arith}
use Rattle.guard.proofs.Verdicts.{wrong_few, judged_free, judged_right, judged_wrong, judged_locked}
use Rattle.guard.proofs.judge_trial.Goals as goal

pub overflow_add-guard : goal.overflow_add-guard
overflow_add-guard c =
    omega (arith, wrong_few c.args.guard c.args.trial (sym c.verdict_of-verdict.ensures ∙ c.in-Wrong.is))

pub returns-in-Free : goal.returns-in-Free
returns-in-Free c =
    judged_free c.args.guard c.args.trial c.args.content.now (sym c.verdict_of-verdict.ensures ∙ c.in-Free.is)

pub returns-in-Right : goal.returns-in-Right
returns-in-Right c =
    rw (c.with_count.ensures, c.change.ensures) (judged_right c.args.guard c.args.trial c.args.content.now (sym c.verdict_of-verdict.ensures ∙ c.in-Right.is))

pub returns-in-Wrong : goal.returns-in-Wrong
returns-in-Wrong c =
    rw c.with_count-in-Wrong.ensures (judged_wrong c.args.guard c.args.trial c.args.content.now (sym c.verdict_of-verdict.ensures ∙ c.in-Wrong.is))

pub returns-in-Locked : goal.returns-in-Locked
returns-in-Locked c =
    judged_locked c.args.guard c.args.trial c.args.content.now (sym c.verdict_of-verdict.ensures ∙ c.in-Locked.is)

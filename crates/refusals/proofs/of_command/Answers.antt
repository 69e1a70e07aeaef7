use mathlib.Core.Path.{◌≡◌, sym, ap, ◌∙◌}
use Rattle.guard.specs.Guard.{trial_of, verdict_of}
use Rattle.guard.specs.declared.Guard.{Guard}
use Rattle.guard.specs.declared.Trial.{Trial}
use Rattle.guard.specs.declared.Verdict.{Verdict}
use Rattle.kinds.specs.declared.Command.{Command}
use Rattle.std.specs.Prelude.{ℕ, Option}
use Rattle.books.specs.declared.Books.{Books}
use Rattle.rules.specs.Views.{view_of}
use Rattle.refusals.specs.Refusals.{against_view, against_verdict, against_command}
use Rattle.refusals.proofs.of_command.Goals as goal

-- what the guard says is asked of the command's own trial
said : (g : Guard) (b : Books) (m : Option ℕ) (c : Command) (t : Trial) (v w : Verdict) → t ≡ trial_of c → v ≡ verdict_of g t → v ≡ w → against_verdict w b m (view_of c) ≡ against_command g b m c
said g b m c t v w et ev ew = ap (λ z. against_verdict z b m (view_of c)) (sym ew ∙ ev ∙ ap (verdict_of g) et)

pub returns-in-Free : goal.returns-in-Free
returns-in-Free c =
    c.of_view.ensures ∙ ap (against_view c.args.books c.args.m) c.view_of.ensures ∙ said c.args.guard c.args.books c.args.m c.args.command c.trial_of.result c.verdict_of-verdict.result _ c.trial_of.ensures c.verdict_of-verdict.ensures c.in-Free.is

pub returns-in-Right : goal.returns-in-Right
returns-in-Right c =
    c.of_view-in-Right.ensures ∙ ap (against_view c.args.books c.args.m) c.view_of-in-Right.ensures ∙ said c.args.guard c.args.books c.args.m c.args.command c.trial_of.result c.verdict_of-verdict.result _ c.trial_of.ensures c.verdict_of-verdict.ensures c.in-Right.is

pub returns-in-Wrong : goal.returns-in-Wrong
returns-in-Wrong c =
    said c.args.guard c.args.books c.args.m c.args.command c.trial_of.result c.verdict_of-verdict.result _ c.trial_of.ensures c.verdict_of-verdict.ensures c.in-Wrong.is

pub returns-in-Locked : goal.returns-in-Locked
returns-in-Locked c =
    said c.args.guard c.args.books c.args.m c.args.command c.trial_of.result c.verdict_of-verdict.result _ c.trial_of.ensures c.verdict_of-verdict.ensures c.in-Locked.is

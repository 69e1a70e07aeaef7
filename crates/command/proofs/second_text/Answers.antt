use mathlib.Core.Logic.{⊎_elim, inl, inr}
use borrow.Author.Tests.{ne_eqb}
use Rattle.command.proofs.second_text.Goals as goal

pub returns-in-49 : goal.returns-in-49
returns-in-49 c = ⊎_elim (λ e. rw e c.second_line.ensures) (λ e. rw e c.second_line.ensures) c.in-49.is

pub returns-in_default : goal.returns-in_default
returns-in_default c =
    let n = c.args.code in
    let two = c.in_default.in_default-own.rest.1 in
    rw (ne_eqb n 49 (λ e. two (inl e)), ne_eqb n 53 (λ e. two (inr e)))

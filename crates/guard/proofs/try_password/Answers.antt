use mathlib.Core.Path.{sym, ◌∙◌}
use borrow.Author.Tests.{le-leb, lt-leb}
use Rattle.guard.proofs.try_password.Goals as goal

pub returns-then-guard-ge-MOST_WRONG : goal.returns-then-guard-ge-MOST_WRONG
returns-then-guard-ge-MOST_WRONG c = rw (le-leb 3 c.args.guard.wrong c.if-guard-ge-MOST_WRONG.true)

pub returns-then-is_right : goal.returns-then-is_right
returns-then-is_right c =
    rw (lt-leb 3 c.args.guard.wrong c.if-guard-ge-MOST_WRONG.false, sym c.is_right.ensures ∙ c.if-is_right.true)

pub returns : goal.returns
returns c =
    rw (lt-leb 3 c.args.guard.wrong c.if-guard-ge-MOST_WRONG.false, sym c.is_right.ensures ∙ c.if-is_right.false)

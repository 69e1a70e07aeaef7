use mathlib.Core.Path.{sym, ◌∙◌}
use Rattle.kinds.proofs.Openings.{no_op, no_secret, not_eight, third_read}
use Rattle.kinds.proofs.operators.read_third.Goals as goal

pub returns-in_default : goal.returns-in_default
returns-in_default c =
    no_op c.args.third c.args.op.now c.args.password.now c.args.last.now (sym c.digits.ensures ∙ c.in_default.is)

pub returns-in_default-read_secret : goal.returns-in_default-read_secret
returns-in_default-read_secret c =
    no_secret c.args.third c.args.op.now c.args.password.now c.args.last.now _ (sym c.digits.ensures ∙ c.in-Some.is) (sym c.read_secret.ensures ∙ c.in_default-read_secret.is)

pub returns-then-not-is_op : goal.returns-then-not-is_op
returns-then-not-is_op c =
    not_eight c.args.third c.args.op.now c.args.password.now c.args.last.now _ _ (sym c.digits.ensures ∙ c.in-Some.is) (sym c.read_secret.ensures ∙ c.in-Some-read_secret.is) (sym c.is_op.ensures ∙ c.if-not-is_op.true)

pub returns-in-Till : goal.returns-in-Till
returns-in-Till c =
    c.open_with.ensures ∙ third_read c.args.third c.args.op.now c.args.password.now c.args.last.now _ _ (sym c.digits.ensures ∙ c.in-Some.is) (sym c.read_secret.ensures ∙ c.in-Some-read_secret.is) _ c.in-Till.is (sym c.is_op.ensures ∙ c.if-not-is_op.false)

pub returns-in-Password : goal.returns-in-Password
returns-in-Password c =
    c.change_with.ensures ∙ third_read c.args.third c.args.op.now c.args.password.now c.args.last.now _ _ (sym c.digits.ensures ∙ c.in-Some.is) (sym c.read_secret.ensures ∙ c.in-Some-read_secret.is) _ c.in-Password.is (sym c.is_op.ensures ∙ c.if-not-is_op.false)

pub returns-in-Name : goal.returns-in-Name
returns-in-Name c =
    c.name_with.ensures ∙ third_read c.args.third c.args.op.now c.args.password.now c.args.last.now _ _ (sym c.digits.ensures ∙ c.in-Some.is) (sym c.read_secret.ensures ∙ c.in-Some-read_secret.is) _ c.in-Name.is (sym c.is_op.ensures ∙ c.if-not-is_op.false)

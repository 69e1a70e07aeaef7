use mathlib.Core.Path.{sym, ◌∙◌}
use native.Mathlib.Omega.{arith}
use Rattle.guard.proofs.Verdicts.{op_from, op_to}
use Rattle.guard.proofs.is_right.Goals as goal

pub returns-then-not-is_op : goal.returns-then-not-is_op
returns-then-not-is_op c = rw (sym c.is_op.ensures ∙ c.if-not-is_op.true)

pub overflow_sub-i : goal.overflow_sub-i
overflow_sub-i c =
    op_from c.args.op (sym c.is_op.ensures ∙ c.if-not-is_op.false)

pub offset_bounds-guard-i : goal.offset_bounds-guard-i
offset_bounds-guard-i c =
    omega (arith, op_to c.args.op (sym c.is_op.ensures ∙ c.if-not-is_op.false))

pub bounds-guard-i : goal.bounds-guard-i
bounds-guard-i c =
    omega (arith, op_to c.args.op (sym c.is_op.ensures ∙ c.if-not-is_op.false))

pub returns : goal.returns
returns c =
    rw (sym c.is_op.ensures ∙ c.if-not-is_op.false) (c.eq.ensures)

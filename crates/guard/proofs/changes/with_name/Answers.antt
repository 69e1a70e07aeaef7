use mathlib.Core.Path.{sym, ◌∙◌}
use native.Mathlib.Omega.{arith}
use Rattle.guard.proofs.Verdicts.{op_from, op_to, named}
use Rattle.guard.proofs.changes.with_name.Goals as goal

pub returns-then-not-is_op : goal.returns-then-not-is_op
returns-then-not-is_op c = rw (sym c.is_op.ensures ∙ c.if-not-is_op.true)

pub overflow_sub-i : goal.overflow_sub-i
overflow_sub-i c =
    op_from c.args.op (sym c.is_op.ensures ∙ c.if-not-is_op.false)

pub offset_bounds-sizes-i : goal.offset_bounds-sizes-i
offset_bounds-sizes-i c =
    omega (arith, op_to c.args.op (sym c.is_op.ensures ∙ c.if-not-is_op.false))

pub bounds-sizes-i : goal.bounds-sizes-i
bounds-sizes-i c =
    omega (arith, op_to c.args.op (sym c.is_op.ensures ∙ c.if-not-is_op.false))

pub overflow_mul-i : goal.overflow_mul-i
overflow_mul-i c =
    omega (arith, op_to c.args.op (sym c.is_op.ensures ∙ c.if-not-is_op.false))

pub returns : goal.returns
returns c =
    named c.args.guard c.args.op c.args.name.now c.min-n.result _ (sym c.is_op.ensures ∙ c.if-not-is_op.false) c.min-n.ensures c.put_bytes.ensures

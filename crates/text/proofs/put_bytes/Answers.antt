use mathlib.Core.Path.{sym}
use native.Mathlib.Nat.{le_of_lt}
use Rattle.text.proofs.Laws.{part_back, sets-out}
use Rattle.text.proofs.put_bytes.Goals as goal

pub returns-then-at-buf : goal.returns-then-at-buf
returns-then-at-buf c =
    part_back c.args.at c.args.buf.now _ c.args.src.now c.copy.ensures

pub returns-else-at-buf : goal.returns-else-at-buf
returns-else-at-buf c =
    sym (sets-out c.args.buf.now c.args.at c.args.src.now (le_of_lt c.if-at-buf.false))

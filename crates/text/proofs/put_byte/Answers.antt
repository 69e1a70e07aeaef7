use mathlib.Core.Path.{sym}
use lib.Seq.{set_out}
use Rattle.text.proofs.put_byte.Goals as goal

pub returns-else-at-buf : goal.returns-else-at-buf
returns-else-at-buf c = sym (set_out _ _ _ c.if-at-buf.false)

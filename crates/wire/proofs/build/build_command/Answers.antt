use mathlib.Core.Path.{◌≡◌, sym, ◌∙◌}
use native.Mathlib.Omega.{arith}
use lib.ListN.{length}
use lib.Seq.{sets}
use Rattle.wire.specs.Frame.{command_of, enclosed}
use Rattle.wire.specs.declared.Way.TheVariants.{ToDevice}
use Rattle.wire.proofs.Building.{around, length-enclosed, carriable_short, sendable_command, can}
use Rattle.wire.proofs.build.build_command.Goals as goal

pub returns : goal.returns
returns c =
    let a = c.args in
    let fits = sym c.can_carry.ensures ∙ c.if-not-can_carry.false in
    let few = carriable_short a.seq a.code a.content.now fits in
    let size : c.enclose.result ≡ length (enclosed a.seq a.code a.content.now) =
    c.enclose.ensures.value ∙ sym (length-enclosed a.seq a.code a.content.now) in
    let put : c.enclose.new.buf ≡ sets a.buf.now 0 (enclosed a.seq a.code a.content.now) =
    around a.buf.now a.content.now a.seq a.code (λ z. z) (omega arith) (omega arith) _ _ c.put_bytes.ensures c.enclose.ensures.buf_after in
    rw (size, put) (sym (can ToDevice a.buf.now (command_of a.seq a.code a.content.now) c.if-buf-lt-COMMAND_ROOM.false (sendable_command a.seq a.code a.content.now ∙ fits)))

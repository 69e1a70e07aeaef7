use Rattle.wire.proofs.Building.{around, length-enclosed, carriable_short, sendable_answer, can}
use mathlib.Core.Path.{◌≡◌, sym, ◌∙◌}
use mathlib.Core.List.{◌∷◌, ◌++◌}
use Prim.Native.Nat.{◌+◌}
use native.Mathlib.Omega.{arith}
use lib.ListN.{length, length-append}
use lib.Seq.{sets}
use Rattle.wire.specs.Frame.{answer_of, enclosed}
use Rattle.wire.specs.declared.Way.TheVariants.{ToTill}
use Rattle.wire.proofs.build.build_answer.Goals as goal

pub returns : goal.returns
returns c =
    let a = c.args in
    let m = answer_of a.seq a.code a.content.now a.status in
    let inner = a.content.now ++ 0x04 ∷ a.status in
    let six : length a.status ≡ 6 = omega arith in
    let fits = sym c.can_carry.ensures ∙ c.if-not-can_carry.false in
    let few = carriable_short a.seq a.code a.content.now fits in
    let longer : length inner ≡ length a.content.now + 7 = length-append a.content.now (0x04 ∷ a.status) ∙ omega arith in
    let sent = sendable_answer a.seq a.code a.content.now a.status six fits (sym c.all_may_stand.ensures ∙ c.if-not-all_may_stand.false) in
    let size : c.finish.result ≡ length (enclosed a.seq a.code inner) = c.finish.ensures.value ∙ omega (arith, length-enclosed a.seq a.code inner) in
    let put : c.finish.new.buf ≡ sets a.buf.now 0 (enclosed a.seq a.code inner) =
    around a.buf.now a.content.now a.seq a.code (λ z. z ++ 0x04 ∷ a.status) (omega arith) (omega arith) _ _ c.put_bytes.ensures c.finish.ensures.buf_after in
    rw (size, put) (sym (can ToTill a.buf.now m c.if-buf-lt-ANSWER_ROOM.false sent))

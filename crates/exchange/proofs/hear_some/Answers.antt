use mathlib.Core.Path.{sym, ◌∙◌}
use native.Mathlib.Omega.{arith}
use lib.ListN.{get_or}
use Rattle.exchange.proofs.Hearing.{byte_heard, heard_all, heard_more, heard_word}
use Rattle.exchange.proofs.hear_some.Goals as goal

pub returns-then-not-is_waiting : goal.returns-then-not-is_waiting
returns-then-not-is_waiting c =
    let i = c.loop-b.b-index in
    let bytes = c.args.bytes.now in
    let heard = byte_heard c.args.frame.now c.loop-b.listening c.loop-b.answer c.loop-b.buf (get_or bytes i 0) _ _ _ c.byte-said.ensures.value c.byte-said.ensures.answer_after c.byte-said.ensures.buf_after in
    sym (heard_word c.args.frame.now c.loop-b.listening c.loop-b.answer c.loop-b.buf bytes i (omega arith) _ heard (sym c.is_waiting.ensures ∙ c.if-not-is_waiting.true))
    ∙ c.loop-b.invariant.1

pub loop-b-preserved : goal.loop-b-preserved
loop-b-preserved c =
    let i = c.loop-b.b-index in
    let bytes = c.args.bytes.now in
    let heard = byte_heard c.args.frame.now c.loop-b.listening c.loop-b.answer c.loop-b.buf (get_or bytes i 0) _ _ _ c.byte-said.ensures.value c.byte-said.ensures.answer_after c.byte-said.ensures.buf_after in (
      omega arith,
      sym (heard_more c.args.frame.now c.loop-b.listening c.loop-b.answer c.loop-b.buf bytes i (omega arith) _ heard (sym c.is_waiting.ensures ∙ c.if-not-is_waiting.false))
          ∙ c.loop-b.invariant.1,
    )

pub returns : goal.returns
returns c =
    sym (heard_all c.args.frame.now c.loop-b.listening c.loop-b.answer c.loop-b.buf c.args.bytes.now c.loop-b.b-index c.loop-b-test.false) ∙ c.loop-b.invariant.1

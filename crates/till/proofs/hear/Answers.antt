-- `hear` meets its contract: what it judges of the byte is what the byte means, and each verdict is said as its turn.
use Rattle.till.proofs.Judging.{judged_is, answer_room, says_failed, says_answer}
use Rattle.till.proofs.hear.Goals as goal

pub returns-in-Fails : goal.returns-in-Fails
returns-in-Fails c =
    let v = judged_is c.args.next c.args.a c.args.frame.now c.args.answer.now c.args.b _ c.take_byte-taken.result _ _ c.nak_outside-nak.ensures c.take_byte-taken.ensures.value c.judge.ensures c.in-Fails.is in
    let all = says_failed c.args.next c.args.a c.args.frame.now c.args.answer.now c.args.b _ c.take_byte-taken.ensures.array_after c.failed_try.result c.args.buf.now _ v c.failed_try.ensures.value c.failed_try.ensures.buf_after in record { value = all.0; answer_after = all.1.0; buf_after = all.1.1 }

pub answered-requires : goal.answered-requires
answered-requires c =
    let v = judged_is c.args.next c.args.a c.args.frame.now c.args.answer.now c.args.b _ c.take_byte-taken.result _ _ c.nak_outside-nak.ensures c.take_byte-taken.ensures.value c.judge.ensures c.in-Answers.is in
    answer_room c.args.next c.args.a c.args.frame.now c.args.answer.now c.args.b _ c.take_byte-taken.ensures.array_after _ v

pub returns-in-Answers : goal.returns-in-Answers
returns-in-Answers c =
    let v = judged_is c.args.next c.args.a c.args.frame.now c.args.answer.now c.args.b _ c.take_byte-taken.result _ _ c.nak_outside-nak.ensures c.take_byte-taken.ensures.value c.judge.ensures c.in-Answers.is in
    let all = says_answer c.args.next c.args.a c.args.frame.now c.args.answer.now c.args.b _ c.take_byte-taken.ensures.array_after c.answered.result c.args.buf.now _ _ v c.answered.ensures.value c.answered.ensures.buf_after in record { value = all.0; answer_after = all.1.0; buf_after = all.1.1 }

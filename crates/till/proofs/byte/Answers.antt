use Rattle.till.specs.Turns.{byte}
use Rattle.till.specs.declared.Word.TheVariants.{TooShort}
use Rattle.till.proofs.Outer.{too_short, read_same, reads_in}
use Rattle.till.proofs.byte.Goals as goal

pub returns-then-buf-lt-COMMAND_ROOM-clause-answer_after : goal.returns-then-buf-lt-COMMAND_ROOM-clause-answer_after
returns-then-buf-lt-COMMAND_ROOM-clause-answer_after c =
    reads_in c.args.till c.args.buf.now c.args.buf.now (record { till = c.args.till; word = TooShort }) _ _ (too_short c.args.till c.args.frame.now c.args.answer.now c.args.buf.now (byte c.args.b) c.if-buf-lt-COMMAND_ROOM.true) c.args.answer.now _ (read_same c.args.till.slot c.args.frame.now c.args.answer.now)

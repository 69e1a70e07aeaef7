use Rattle.till.specs.Turns.{command}
use Rattle.till.specs.declared.Word.TheVariants.{NotSent, TooShort}
use Rattle.till.proofs.Outer.{too_short, command_held, framed_same, frames_in_lem}
use Rattle.till.proofs.command.Goals as goal

pub returns-then-buf-lt-COMMAND_ROOM-clause-by_index_2 : goal.returns-then-buf-lt-COMMAND_ROOM-clause-by_index_2
returns-then-buf-lt-COMMAND_ROOM-clause-by_index_2 c = λ answer.
    frames_in_lem c.args.till c.args.buf.now c.args.buf.now (record { till = c.args.till; word = TooShort }) _ _ (too_short c.args.till c.args.frame.now answer c.args.buf.now (command c.args.code c.args.content.now) c.if-buf-lt-COMMAND_ROOM.true) c.args.frame.now _ (framed_same c.args.till.slot c.args.frame.now answer)

pub returns-in_default-clause-by_index_2 : goal.returns-in_default-clause-by_index_2
returns-in_default-clause-by_index_2 c = λ answer.
    frames_in_lem c.args.till c.args.buf.now c.args.buf.now (record { till = c.args.till; word = NotSent }) _ _ (command_held c.args.till c.args.frame.now answer c.args.buf.now c.if-buf-lt-COMMAND_ROOM.false c.args.code c.args.content.now _ c.in_default.is) c.args.frame.now _ (framed_same c.args.till.slot c.args.frame.now answer)

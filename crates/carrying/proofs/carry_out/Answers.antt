use mathlib.Core.Path.{ap, ◌∙◌}
use native.Mathlib.Omega.{arith}
use Rattle.carrying.specs.Work.{work_done}
use Rattle.carrying.proofs.Working.{worked_short, worked_long}
use Rattle.carrying.proofs.carry_out.Goals as goal

pub returns-then-buf-lt-ANSWER_ROOM : goal.returns-then-buf-lt-ANSWER_ROOM
returns-then-buf-lt-ANSWER_ROOM c =
    record {
      buf_after = worked_short c.args.books c.args.m c.args.seq c.args.code c.args.passes c.args.parsed c.args.buf.now c.if-buf-lt-ANSWER_ROOM.true;
      count_bound = omega arith;
    }

pub returns : goal.returns
returns c =
    record {
      buf_after = c.answer.ensures.buf_after
          ∙ ap (λ z. work_done c.args.books c.args.seq c.args.code z c.args.buf.now) c.deed_for.ensures
          ∙ worked_long c.args.books c.args.m c.args.seq c.args.code c.args.passes c.args.parsed c.args.buf.now c.if-buf-lt-ANSWER_ROOM.false;
      count_bound = c.answer.ensures.count_bound;
    }

use Rattle.till.proofs.Turning.{put_both}
use Rattle.till.proofs.answered.Goals as goal

pub returns-clause-buf_after : goal.returns-clause-buf_after
returns-clause-buf_after c = put_both c.args.buf.now _ _ c.args.answer.now c.args.n c.requires c.put_part.ensures c.put_part-2.ensures

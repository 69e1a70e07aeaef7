use Rattle.machine.proofs.Working.{none_again, again_size, again_bytes}
use Rattle.giving.proofs.again.Goals as goal

pub returns-in-Nothing : goal.returns-in-Nothing
returns-in-Nothing c =
    let all = none_again c.args.previous c.args.last.now c.args.buf.now c.in-Nothing.is in record { value = all.0; buf_after = all.1 }

pub returns-in-Frame : goal.returns-in-Frame
returns-in-Frame c =
    record {
      value = again_size c.args.previous c.args.last.now c.args.buf.now _ _ _ c.min-n.result c.in-Frame.is c.min-n.ensures;
      buf_after = again_bytes c.args.previous c.args.last.now c.args.buf.now _ _ _ c.min-n.result c.in-Frame.is c.min-n.ensures _ c.put_bytes.ensures;
    }

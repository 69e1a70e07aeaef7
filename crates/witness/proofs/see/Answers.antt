use lib.ListN.{drop}
use Rattle.kept.specs.ByValue.{machine_of}
use Rattle.witness.proofs.Seeing.{seen_is}
use Rattle.witness.proofs.see.Goals as goal

pub returns : goal.returns
returns c =
    record {
      display_after = seen_is (machine_of c.args.kept c.args.frame.now c.args.last.now) (record { buffer = c.args.buf.now; lines = 512; display = c.args.display.now }) (drop c.args.from c.args.bytes.now) _ c.why.result c.hear_next-next.ensures.display_after c.why.ensures;
      count_bound = c.hear_next-next.ensures.count_bound;
    }

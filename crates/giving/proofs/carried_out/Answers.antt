use mathlib.Core.Path.{ap}
use Rattle.line.specs.declared.Previous.TheVariants.{Frame}
use Rattle.giving.specs.Ending.{ended_by}
use Rattle.giving.proofs.carried_out.Goals as goal

pub returns : goal.returns
returns c =
    let w = c.args.work in
    ap (ended_by c.args.begun (record {
      device = record { line = record { reader = c.args.begun.device.line.reader; previous = Frame c.args.seq c.args.code w.count }; books = w.books; guard = c.args.begun.device.guard };
      number = w.number;
      count = w.count;
      shows = c.args.begun.shows;
    })) c.writes_of.ensures

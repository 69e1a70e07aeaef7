use mathlib.Core.Path.{ap}
use Rattle.giving.specs.Ending.{ended_by}
use Rattle.giving.proofs.end_with.Goals as goal

pub returns : goal.returns
returns c =
    ap (ended_by c.args.begun (record { device = c.args.begun.device; number = c.args.number; count = c.args.count; shows = c.args.begun.shows })) c.writes_of.ensures

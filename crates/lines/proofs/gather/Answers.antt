-- Where the line feed stands is within the part.
use Rattle.std.proofs.Common.{arith}
use Rattle.std.proofs.lemmas.Grind.{common_steps}
use Rattle.text.proofs.Cutting.{place_within}
use Rattle.lines.proofs.gather.Goals as goal

pub slice_bounds-put_bytes-end : goal.slice_bounds-put_bytes-end
slice_bounds-put_bytes-end c = grind (arith, common_steps, place_within 10 c.args.part.now, c.find-end.ensures)

use native.Mathlib.Omega.{arith}
use Rattle.text.proofs.Cutting.{place_within, to_end}
use Rattle.stretches.proofs.Stretching.{next_at_once}
use Rattle.stretches.proofs.take_stretch.Goals as goal

pub slice_bounds-rest-count : goal.slice_bounds-rest-count
slice_bounds-rest-count c = omega (arith, place_within 0x01 c.args.bytes.now)

pub slice_bounds-rest-start : goal.slice_bounds-rest-start
slice_bounds-rest-start c = omega (arith, place_within 0x01 c.args.bytes.now)

pub returns : goal.returns
returns c =
    next_at_once _ _ c.args.bytes.now c.args.array.now _ c.args.reader c.if-reader.false c.find-start.ensures (to_end _ c.args.bytes.now)
    c.in-Some.ensures (omega arith) _ _ c.put_bytes.ensures c.fresh.ensures

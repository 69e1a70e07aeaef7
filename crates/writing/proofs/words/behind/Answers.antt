use native.Mathlib.Omega.{arith}
use Rattle.text.proofs.Cutting.{place_within}
use Rattle.writing.proofs.Cuts.{behind_none, behind_some}
use Rattle.writing.proofs.words.behind.Goals as goal

pub returns-then-end-s : goal.returns-then-end-s
returns-then-end-s c =
    behind_none c.args.s.now c.find-end.result c.find-end.ensures c.if-end-s.true

pub overflow_add-next : goal.overflow_add-next
overflow_add-next c = omega (arith, place_within 0x20 c.args.s.now)

pub slice_bounds-result-count-2 : goal.slice_bounds-result-count-2
slice_bounds-result-count-2 c = omega (arith, place_within 0x20 c.args.s.now)

pub slice_bounds-result-start-2 : goal.slice_bounds-result-start-2
slice_bounds-result-start-2 c = omega (arith, place_within 0x20 c.args.s.now)

pub returns : goal.returns
returns c =
    behind_some c.args.s.now c.find-end.result c.find-end.ensures

use native.Mathlib.Omega.{arith}
use lib.ListN.{get_or}
use Rattle.sentences.proofs.Filling.{rest_start, rest_done, filled_done, takes_one, turn_by}
use Rattle.sentences.proofs.fill.Goals as goal

pub loop-b-init : goal.loop-b-init
loop-b-init c = (omega arith, rest_start _ c.min-place.ensures)

pub overflow_add-next : goal.overflow_add-next
overflow_add-next c =
    omega (arith, takes_one (get_or c.args.sentence.now c.loop-b.b-index 0) c.takes-next.ensures)

pub loop-b-preserved : goal.loop-b-preserved
loop-b-preserved c =
    let a = c.args in (
      omega (arith, takes_one (get_or a.sentence.now c.loop-b.b-index 0) c.takes-next.ensures),
      turn_by a.sentence.now a.word.now a.figures.now c.loop-b.b-index c.loop-b.next c.loop-b-test.true c.takes-next.ensures c.figure.ensures c.loop-b.invariant.1 c.put_piece-place.ensures,
    )

pub returns : goal.returns
returns c =
    let a = c.args in
    rest_done c.loop-b.invariant.1 (filled_done a.sentence.now a.word.now _ c.loop-b.b-index c.loop-b-test.false)

-- The loop's invariant: with the rest put here, all is put.
use native.Mathlib.Omega.{arith}
use Rattle.sentences.proofs.Filling.{rest_start, rest_turn, rest_done}
use Rattle.pages.specs.Pages.{page_letter}
use Rattle.pages.proofs.Letters.{each_next, each_done}
use Rattle.pages.proofs.put_page_letters.Goals as goal

pub loop-b-init : goal.loop-b-init
loop-b-init c = rest_start _ c.min-place.ensures

pub loop-b-preserved : goal.loop-b-preserved
loop-b-preserved c =
    let bytes = c.args.bytes.now in
    rest_turn c.loop-b.invariant _ _ (each_next page_letter bytes c.loop-b.b-index (omega arith)) c.put_letter-place.ensures

pub returns : goal.returns
returns c = rest_done c.loop-b.invariant (each_done page_letter c.args.bytes.now c.loop-b.b-index (omega arith))

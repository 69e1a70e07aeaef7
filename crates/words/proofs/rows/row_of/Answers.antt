use Rattle.text.proofs.Cutting.{cut_length}
use Prim.Native.Nat.{◌-◌}
use mathlib.Core.Path.{ap, ◌∙◌}
use lib.ListN.{take}
use borrow.Author.Rules.{rules}
use Rattle.words.proofs.rows.row_of.Goals.{else-loop-test, then-loop-test+then-is_empty}
use Rattle.words.proofs.Table.{row_next, row_first, row_past}
use Rattle.words.proofs.rows.row_of.Goals as goal

pub loop-preserved : goal.loop-preserved
loop-preserved c = row_next c.args.k c.loop.counter _ _ _ c.loop-test.true c.loop.invariant c.behind_row-rest.ensures

pub slice_bounds-result-end : goal.slice_bounds-result-end
slice_bounds-result-end c = cut_length 10 _ _ c.find.ensures

pub returns : goal.returns
returns c =
    let to-feed = ap (λ n. take n c.loop.rest.now) c.find.ensures in
    elim c.loop-test.branch [
      | else-loop-test w ↦ to-feed ∙ row_first c.args.k c.loop.counter _ _ w.loop-test.false c.loop.invariant
      | then-loop-test+then-is_empty w ↦ to-feed ∙ row_past (c.args.k - c.loop.counter) _ _ (search rules) c.loop.invariant
    ]

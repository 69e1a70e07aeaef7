use mathlib.Core.Path.{ap, ◌∙◌}
use mathlib.Core.List.{◌++◌}
use Prim.Native.Nat.{◌-◌}
use lib.ListN.{get_or}
use borrow.Author.Tests.{not-false}
use Rattle.expecting.specs.Expecting.{front_parts, ending_parts, behind_all}
use Rattle.expecting.proofs.Parts.{at_behind}
use Rattle.expecting.proofs.expected_at.Goals as goal

pub returns : goal.returns
returns c =
    c.behind_len.ensures
    ∙ ap (λ n. get_or (front_parts n ++ ending_parts c.args.reader.sum) (c.min-came.result - 1) behind_all) c.data_count.ensures
    ∙ at_behind c.args.reader c.args.array.now (not-false _ c.if-not-reader.false) c.min-came.result c.min-came.ensures c.if-came-eq0.false

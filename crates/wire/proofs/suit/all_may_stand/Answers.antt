use mathlib.Core.Path.{◌∙◌}
use Rattle.std.proofs.Common.{rules, tests}
use Rattle.std.proofs.lemmas.Iterator.{YieldsList-from_slice}
use Rattle.std.proofs.lemmas.Iterator.Search.{all_from_yields_List}
use Rattle.wire.specs.Bytes.{may_stand}
use Rattle.text.proofs.Cutting.{all_every}
use Rattle.wire.proofs.suit.all_may_stand.Goals as goal

pub returns : goal.returns
returns c =
    all_from_yields_List (may_stand c.args.role) _ _ c.all.result c.all.ensures.ran (YieldsList-from_slice c.args.part.now cc) (λ x b q k. search (rules, tests))
    ∙ all_every (may_stand c.args.role) c.args.part.now

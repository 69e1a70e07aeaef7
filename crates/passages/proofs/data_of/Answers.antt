use mathlib.Core.Path.{◌≡◌, sym, ap, ◌∙◌}
use mathlib.Core.List.{[]}
use native.Mathlib.Omega.{arith}
use lib.ListN.{take, drop, drop_of_length-le}
use lib.Seq.{take-nil}
use Rattle.text.proofs.Cutting.{to_end}
use Rattle.passages.proofs.data_of.Goals as goal

pub returns-then-shadow-lt3 : goal.returns-then-shadow-lt3
returns-then-shadow-lt3 c =
    let none : drop 3 c.args.shadow.now ≡ [] = drop_of_length-le c.args.shadow.now {i = 3} (omega arith) in
    sym (ap (take c.args.count) none ∙ take-nil c.args.count)

pub returns : goal.returns
returns c =
    c.front.ensures ∙ ap (take c.args.count) (to_end 3 c.args.shadow.now)

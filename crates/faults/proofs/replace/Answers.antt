use native.Mathlib.Omega.{arith}
use mathlib.Core.Path.{◌∙◌}
use Rattle.faults.proofs.Placing.{at_place}
use Rattle.faults.proofs.replace.Goals as goal

pub returns-then-place-n : goal.returns-then-place-n
returns-then-place-n c =
    let a = c.args in
    λ l bytes size stood. c.put_byte.ensures ∙ at_place l a.out.now bytes a.n a.place a.byte size stood (search (arith, c.if-place-n.true)) (search (arith, c.if-place-n.true))

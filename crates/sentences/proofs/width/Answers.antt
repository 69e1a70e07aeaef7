use mathlib.Core.Path.{sym, ◌∙◌}
use native.Mathlib.Omega.{arith}
use Prim.Native.Nat.{◌-◌}
use Rattle.sentences.proofs.Filling.{width_one, width_more, width_none}
use Rattle.sentences.proofs.width.Goals as goal

pub returns-then-left-lt10 : goal.returns-then-left-lt10
returns-then-left-lt10 c =
    let l = c.loop-count in
    omega (arith, l.invariant, width_one (20 - l.count) l.left c.if-left-lt10.true)

pub loop-count-preserved : goal.loop-count-preserved
loop-count-preserved c =
    let l = c.loop-count in
    sym (width_more l.count l.left (omega arith) c.if-left-lt10.false) ∙ l.invariant

pub returns : goal.returns
returns c =
    let l = c.loop-count in
    omega (arith, l.invariant, width_none (20 - l.count) l.left (omega arith))

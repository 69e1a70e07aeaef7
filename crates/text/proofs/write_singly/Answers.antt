use mathlib.Core.Path.{◌≡◌, sym, ◌∙◌}
use native.Mathlib.Omega.{arith}
use Rattle.text.specs.Digits.{digits}
use Rattle.text.proofs.Laws.{digits_turn}
use Rattle.text.proofs.write_singly.Goals as goal

pub loop-i-preserved : goal.loop-i-preserved
loop-i-preserved c = rw c.put_byte.ensures (sym (digits_turn _ _ _ c.loop-i-test.true) ∙ c.loop-i.invariant)

pub returns : goal.returns
unfolding digits
returns c =
    let none : c.loop-i.i ≡ 0 = omega arith in
    rw none at c.loop-i.invariant

use mathlib.Core.Path.{refl, ap, ◌∙◌}
use native.Mathlib.Omega.{arith}
use lib.ListN.{length}
use Rattle.display.proofs.Marks.{plain_mark, plain_byte, suit_turn, suit_stop, judged}
use Rattle.display.proofs.can_show.Goals as goal
use Rattle.display.proofs.can_show.Goals.{then-not-marked, else-not-marked}

pub loop-b-init : goal.loop-b-init
loop-b-init c = (omega arith, refl, omega arith)

pub returns-then-marked-b : goal.returns-then-marked-b
returns-then-marked-b c =
    let stop = suit_stop c.args.s.now c.loop-b.b-index c.loop-b.marked c.loop-b-test.true c.if-marked-b.true in
    rw (c.loop-b.invariant.1, stop)

pub loop-b-preserved : goal.loop-b-preserved
loop-b-preserved c =
    let s = c.args.s.now in
    let here = c.loop-b in
    let less = c.loop-b-test.true in
    let e = c.is_mark-marked.ensures in
    let mark = c.is_mark-marked.result in
    let goes_on = here.invariant.1 ∙ suit_turn s here.b-index here.marked mark less e c.if-marked-b.false in
    elim c.if-not-marked.branch [
      | then-not-marked w ↦
          let one = ap length (plain_byte s here.b-index here.marked mark less e w.if-not-marked.true-raw) in
          (omega arith, goes_on, omega (arith, one))
      | else-not-marked w ↦
          let none = ap length (plain_mark s here.b-index here.marked mark less e w.if-not-marked.false-raw) in
          (omega arith, goes_on, omega (arith, none))
    ]

pub returns : goal.returns
returns c =
    let at = c.loop-b in
    judged c.args.s.now at.b-index at.marked at.count c.loop-b-test.false at.invariant.1 at.invariant.2

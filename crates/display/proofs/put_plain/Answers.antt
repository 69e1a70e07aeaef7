use mathlib.Core.Path.{refl, ap, ◌∙◌}
use native.Mathlib.Omega.{arith}
use lib.ListN.{length}
use lib.Seq.{length-sets}
use Rattle.display.proofs.Marks.{plain_mark, plain_byte, plain_done, put_turn}
use Rattle.display.proofs.put_plain.Goals as goal
use Rattle.display.proofs.put_plain.Goals.{then-not-mark, else-not-mark}

pub loop-b-init : goal.loop-b-init
loop-b-init c = (omega arith, omega arith, refl)

pub loop-b-preserved : goal.loop-b-preserved
loop-b-preserved c =
    let s = c.args.s.now in
    let here = c.loop-b in
    let less = c.loop-b-test.true in
    let e = c.is_mark-mark.ensures in
    let mark = c.is_mark-mark.result in
    elim c.if-not-mark.branch [
      | then-not-mark w ↦
          let one = ap length (plain_byte s here.b-index here.marked mark less e w.if-not-mark.true-raw) in (
            omega arith,
            rw w.marked-is (omega (arith, one)),
            rw w.marked-is (put_turn s here.b-index here.marked mark _ _ _ _ _ less e w.if-not-mark.true-raw w.plain_byte.ensures (w.buf-is ∙ w.put_byte.ensures) w.count-is ∙ here.invariant.2),
          )
      | else-not-mark w ↦
          let none = plain_mark s here.b-index here.marked mark less e w.if-not-mark.false-raw in (
            omega arith,
            rw w.marked-is (omega (arith, ap length none)),
            rw (w.marked-is, w.buf-is, w.count-is, ← none) here.invariant.2,
          )
    ]

pub shape_of-buf : goal.shape_of-buf
shape_of-buf c = simp length-sets at (ap length c.loop-b.invariant.2)

pub returns : goal.returns
returns c =
    let at = c.loop-b in
    let none = plain_done c.args.s.now at.b-index at.marked c.loop-b-test.false in
    record {
      value = omega (arith, ap length none);
      buf_after = rw none at at.invariant.2;
    }

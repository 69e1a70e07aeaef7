use Rattle.writing.proofs.Saying.{head_turn, ends_there, all_counted, all_put}
use native.Mathlib.Omega.{arith}
use Rattle.writing.proofs.content.unescape.Goals as goal

pub loop-b-preserved : goal.loop-b-preserved
loop-b-preserved c =
    let a = c.args in
    head_turn a.s.now c.loop-b.stand c.loop-b.b-index (omega arith) a.buf.now c.loop-b.buf c.loop-b.count c.loop-b.invariant
    _ c.step_of-step.ensures _ c.put_said-count.ensures.value _ c.put_said-count.ensures.buf_after _ c.stand_after-stand.ensures

pub returns : goal.returns
returns c =
    let at = c.loop-b in
    let a = c.args in
    let ends = ends_there a.s.now a.buf.now at.buf at.stand at.count at.b-index at.invariant c.loop-b-test.false in
    let counts = all_counted a.s.now a.buf.now at.buf at.stand at.count at.b-index at.invariant c.loop-b-test.false in
    record {
      value = cc;
      buf_after = all_put a.s.now a.buf.now at.buf at.stand at.count at.b-index at.invariant c.loop-b-test.false;
    }

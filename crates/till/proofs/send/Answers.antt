use mathlib.Core.Path.{◌≡◌}
use native.Mathlib.Omega.{arith}
use lib.ListN.{length}
use Rattle.till.proofs.Outer.{built_frame, says_sent}
use Rattle.till.proofs.send.Goals as goal

pub returns-clause-buf_after : goal.returns-clause-buf_after
returns-clause-buf_after c =
    let size : length c.args.frame.now ≡ 256 = omega arith in
    let built = built_frame c.args.next c.args.code c.args.content.now c.args.frame.now size _ _ _ c.in-Ok.is c.build_command-built.ensures in
    let all = says_sent c.args.next c.args.code c.args.content.now c.args.frame.now size built.0 _ built.1.0 _ c.args.buf.now _ built.1.1 c.put_part.ensures _ c.seq_after.ensures _ c.listen.ensures in
    all.1.1

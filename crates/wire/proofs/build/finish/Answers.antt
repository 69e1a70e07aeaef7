use mathlib.Core.Path.{◌≡◌}
use native.Mathlib.Omega.{arith}
use lib.ListN.{length}
use Rattle.wire.proofs.Building.{finishing}
use Rattle.wire.proofs.build.finish.Goals as goal

pub returns-clause-buf_after : goal.returns-clause-buf_after
returns-clause-buf_after c =
    let a = c.args in
    let six : length a.status ≡ 6 = omega arith in
    finishing a.buf.now a.status a.n a.seq a.code c.requires.n_in_bounds six _ _ _ c.put_byte.ensures c.put_bytes.ensures c.enclose.ensures.buf_after

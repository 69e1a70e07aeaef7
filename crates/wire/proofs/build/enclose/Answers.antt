use Rattle.wire.proofs.Building.{enclosing}
use Rattle.wire.proofs.build.enclose.Goals as goal

pub returns-clause-buf_after : goal.returns-clause-buf_after
returns-clause-buf_after c =
    let a = c.args in
    enclosing a.buf.now a.n a.seq a.code c.requires.n_in_bounds _ _ _ _ _ _
    c.put_bytes.ensures c.put_byte.ensures c.sum_of.ensures c.bcc_bytes-quad.ensures c.put_bytes-2.ensures c.put_byte-2.ensures

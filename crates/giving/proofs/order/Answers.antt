use mathlib.Core.Path.{ap}
use native.Mathlib.Omega.{arith}
use Rattle.giving.specs.declared.Ended.{Ended}
use Rattle.giving.proofs.Ending.{order_is}
use Rattle.giving.proofs.order.Goals as goal

pub returns : goal.returns
returns c =
    record {
      buf_after = order_is c.args.begun c.args.at c.args.found c.args.last.now c.args.buf.now c.args.seq c.args.code c.match_at-m.result c.carry_out-work.result _ _ c.carried_out.result c.match_at-m.ensures
          c.carry_out-work.ensures.buf_after c.put_bytes.ensures c.carried_out.ensures;
      count_bound = omega (arith, ap (λ (z : Ended). z.hearing.given.count) c.carried_out.ensures);
    }

use native.Mathlib.Omega.{arith}
use Rattle.tape.proofs.Appending.{list_order}
use Rattle.tape.proofs.list_call.Goals as goal

pub returns-clause-orders_after : goal.returns-clause-orders_after
returns-clause-orders_after c =
    (list_order c.args.call c.args.frame.now c.args.orders.now c.args.at _ _ _ c.min-n.result c.append-behind.result c.append.result _ _ c.in-Order.is (omega arith)
    c.min-n.ensures c.append-behind.ensures.value c.append-behind.ensures.out_after c.append.ensures.value c.append.ensures.out_after).1

use mathlib.Core.Path.{ap}
use native.Mathlib.Omega.{arith}
use Rattle.giving.specs.declared.Ended.{Ended}
use Rattle.machine.proofs.Working.{again_few}
use Rattle.giving.proofs.Ending.{end_quiet, end_nak, end_again, end_order}
use Rattle.giving.proofs.give.Goals as goal

pub returns-in-Quiet : goal.returns-in-Quiet
returns-in-Quiet c =
    record {
      buf_after = end_quiet c.args.begun c.args.at c.args.found c.args.last.now c.args.buf.now c.end_with.result c.end_with.ensures c.in-Quiet.is;
      count_bound = omega (arith, ap (λ (z : Ended). z.hearing.given.count) c.end_with.ensures);
    }

pub returns-in-Nak : goal.returns-in-Nak
returns-in-Nak c =
    record {
      buf_after = end_nak c.args.begun c.args.at c.args.found c.args.last.now c.args.buf.now c.end_with-in-Nak.result _ c.end_with-in-Nak.ensures c.put_byte.ensures c.in-Nak.is;
      count_bound = omega (arith, ap (λ (z : Ended). z.hearing.given.count) c.end_with-in-Nak.ensures);
    }

pub returns-in-Again : goal.returns-in-Again
returns-in-Again c =
    record {
      buf_after = end_again c.args.begun c.args.at c.args.found c.args.last.now c.args.buf.now c.end_with-in-Again.result c.again-count.result _ c.end_with-in-Again.ensures c.again-count.ensures.value c.again-count.ensures.buf_after c.in-Again.is;
      count_bound = omega (arith, ap (λ (z : Ended). z.hearing.given.count) c.end_with-in-Again.ensures, again_few c.args.begun.device.line.previous c.args.last.now c.requires.lasts);
    }

pub returns-in-Order : goal.returns-in-Order
returns-in-Order c =
    record {
      buf_after = end_order c.args.begun c.args.at c.args.found c.args.last.now c.args.buf.now _ _ _ _ c.order.ensures.buf_after c.in-Order.is;
      count_bound = c.order.ensures.count_bound;
    }

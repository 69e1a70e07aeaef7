use native.Mathlib.Omega.{arith}
use Rattle.machine.proofs.Beginning.{asked_is, shown_is}
use Rattle.machine.proofs.ask.Goals as goal

pub returns-clause-value : goal.returns-clause-value
returns-clause-value c =
    asked_is c.args.books c.args.guard c.args.call c.args.frame.now _ _ _ c.min-end.result c.in-Order.is (omega arith) c.min-end.ensures c.parse-parsed.result c.search_in-search.result c.show-shows.result c.judge-judged.result
    c.parse-parsed.ensures c.search_in-search.ensures c.show-shows.ensures.value c.judge-judged.ensures

pub returns-clause-display_after : goal.returns-clause-display_after
returns-clause-display_after c =
    shown_is c.args.books c.args.guard c.args.call c.args.frame.now _ _ _ c.min-end.result c.in-Order.is (omega arith) c.min-end.ensures c.args.display.now _ c.show-shows.ensures.buf_after

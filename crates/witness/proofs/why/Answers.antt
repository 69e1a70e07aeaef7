use native.Mathlib.Omega.{arith}
use Rattle.witness.proofs.Seeing.{reason_is}
use Rattle.witness.proofs.why.Goals as goal

pub returns : goal.returns
returns c =
    reason_is (record { books = c.args.books; sheet = c.args.sheet; guard = c.args.guard }) c.args.call c.args.frame.now _ _ _ c.min-end.result
    c.parse-parsed.result c.search_in.result c.match_kept-said.result c.reason_of.result
    c.in-Order.is (omega arith) c.min-end.ensures c.parse-parsed.ensures c.search_in.ensures c.match_kept-said.ensures c.reason_of.ensures

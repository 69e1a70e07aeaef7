use lib.ListN.{length}
use borrow.Author.Tests.{eq-eqb, ne_eqb}
use Rattle.kinds.proofs.plain.bare.Goals as goal

pub returns-then-s-eq0 : goal.returns-then-s-eq0
returns-then-s-eq0 c = rw (eq-eqb (length c.args.s.now) 0 c.if-s-eq0.true)

pub returns : goal.returns
returns c = rw (ne_eqb (length c.args.s.now) 0 c.if-s-eq0.false)

use borrow.Author.Tests.{ne_eqb}
use Rattle.status.proofs.verdict_second.Goals as goal

pub returns-in-3 : goal.returns-in-3
returns-in-3 c = rw c.in-3.is

pub returns-in-4 : goal.returns-in-4
returns-in-4 c = rw c.in-4.is

pub returns-in_default : goal.returns-in_default
returns-in_default c =
    let n = c.args.number in
    rw (ne_eqb n 3 c.in_default.in_default-own.rest.0.1, ne_eqb n 4 c.in_default.in_default-own.rest.1)

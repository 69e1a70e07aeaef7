use lib.ListN.{get_or}
use borrow.Author.Tests.{ne_eqb}
use Rattle.kinds.proofs.Forms.{one, closing_long}
use Rattle.kinds.proofs.plain.closing.Goals as goal

pub returns-then-s-ne1 : goal.returns-then-s-ne1
returns-then-s-ne1 c = closing_long c.args.s.now c.if-s-ne1.true

pub returns-in-48 : goal.returns-in-48
returns-in-48 c = rw (one c.args.s.now c.if-s-ne1.false) (rw c.in-48.is)

pub returns-in-50 : goal.returns-in-50
returns-in-50 c = rw (one c.args.s.now c.if-s-ne1.false) (rw c.in-50.is)

pub returns-in_default : goal.returns-in_default
returns-in_default c =
    let s = c.args.s.now in
    rw (one s c.if-s-ne1.false) (rw (ne_eqb (get_or s 0 0) 0x30 c.in_default.in_default-own.rest.0.1, ne_eqb (get_or s 0 0) 0x32 c.in_default.in_default-own.rest.1))

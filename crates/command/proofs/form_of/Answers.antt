use borrow.Author.Tests.{ne_eqb}
use Rattle.command.proofs.form_of.Goals as goal

pub returns-in-38 : goal.returns-in-38
returns-in-38 c = rw c.in-38.is c.bare.ensures

pub returns-in-39 : goal.returns-in-39
returns-in-39 c = rw c.in-39.is c.bare-in-39.ensures

pub returns-in-42 : goal.returns-in-42
returns-in-42 c = rw c.in-42.is c.text.ensures

pub returns-in-48 : goal.returns-in-48
returns-in-48 c = rw c.in-48.is c.read_fields.ensures

pub returns-in-49 : goal.returns-in-49
returns-in-49 c = rw c.in-49.is c.sell.ensures

pub returns-in-51 : goal.returns-in-51
returns-in-51 c = rw c.in-51.is c.subtotal.ensures

pub returns-in-53 : goal.returns-in-53
returns-in-53 c = rw c.in-53.is c.pay.ensures

pub returns-in-56 : goal.returns-in-56
returns-in-56 c = rw c.in-56.is c.bare-in-56.ensures

pub returns-in-60 : goal.returns-in-60
returns-in-60 c = rw c.in-60.is c.bare-in-60.ensures

pub returns-in-65 : goal.returns-in-65
returns-in-65 c = rw c.in-65.is c.sums.ensures

pub returns-in-69 : goal.returns-in-69
returns-in-69 c = rw c.in-69.is c.closing.ensures

pub returns-in-70 : goal.returns-in-70
returns-in-70 c = rw c.in-70.is c.drawer.ensures

pub returns-in-74 : goal.returns-in-74
returns-in-74 c = rw c.in-74.is c.bare-in-74.ensures

pub returns-in-97 : goal.returns-in-97
returns-in-97 c = rw c.in-97.is c.bare-in-97.ensures

pub returns-in-100 : goal.returns-in-100
returns-in-100 c = rw c.in-100.is c.show_text.ensures

pub returns-in-101 : goal.returns-in-101
returns-in-101 c = rw c.in-101.is c.read_fields-in-101.ensures

pub returns-in-102 : goal.returns-in-102
returns-in-102 c = rw c.in-102.is c.read_fields-in-102.ensures

pub returns-in_default : goal.returns-in_default
returns-in_default c =
    let n = c.args.code in
    rw (ne_eqb n 38 c.in_default.in_default-own.rest.0.0.0.0.0.0.0.0.0.0.0.0.0.0.0.0.1, ne_eqb n 39 c.in_default.in_default-own.rest.0.0.0.0.0.0.0.0.0.0.0.0.0.0.0.1, ne_eqb n 42 c.in_default.in_default-own.rest.0.0.0.0.0.0.0.0.0.0.0.0.0.0.1, ne_eqb n 48 c.in_default.in_default-own.rest.0.0.0.0.0.0.0.0.0.0.0.0.0.1, ne_eqb n 49 c.in_default.in_default-own.rest.0.0.0.0.0.0.0.0.0.0.0.0.1, ne_eqb n 51 c.in_default.in_default-own.rest.0.0.0.0.0.0.0.0.0.0.0.1, ne_eqb n 53 c.in_default.in_default-own.rest.0.0.0.0.0.0.0.0.0.0.1, ne_eqb n 56 c.in_default.in_default-own.rest.0.0.0.0.0.0.0.0.0.1, ne_eqb n 60 c.in_default.in_default-own.rest.0.0.0.0.0.0.0.0.1, ne_eqb n 65 c.in_default.in_default-own.rest.0.0.0.0.0.0.0.1, ne_eqb n 69 c.in_default.in_default-own.rest.0.0.0.0.0.0.1, ne_eqb n 70 c.in_default.in_default-own.rest.0.0.0.0.0.1, ne_eqb n 74 c.in_default.in_default-own.rest.0.0.0.0.1, ne_eqb n 97 c.in_default.in_default-own.rest.0.0.0.1, ne_eqb n 100 c.in_default.in_default-own.rest.0.0.1, ne_eqb n 101 c.in_default.in_default-own.rest.0.1, ne_eqb n 102 c.in_default.in_default-own.rest.1)

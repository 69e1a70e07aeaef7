use mathlib.Core.Path.{◌≡◌}
use Rattle.kinds.specs.declared.Unread.TheVariants.{Syntax, Unknown}
use Rattle.carrying.proofs.deed_for.Goals as goal

pub returns-then-passes : goal.returns-then-passes
returns-then-passes c = rw (c.in-Ok.is, c.if-passes.true) c.carry_out.ensures

pub returns-else-passes : goal.returns-else-passes
returns-else-passes c = rw (c.in-Ok.is, c.if-passes.false) c.refuse.ensures

pub returns-in-Err-Syntax : goal.returns-in-Err-Syntax
returns-in-Err-Syntax c =
    let why : c.in-Err-Syntax.field-0 ≡ Syntax = rw c.in-Err-Syntax.is at c.in-Err-Syntax.field-0-is in
    rw (c.in-Err-Syntax.is, why) c.refuse-in-Err-Syntax.ensures

pub returns-in-Err-Unknown : goal.returns-in-Err-Unknown
returns-in-Err-Unknown c =
    let why : c.in-Err-Unknown.field-0 ≡ Unknown = rw c.in-Err-Unknown.is at c.in-Err-Unknown.field-0-is in
    rw (c.in-Err-Unknown.is, why) c.refuse-in-Err-Unknown.ensures

use mathlib.Core.Path.{◌≡◌, refl, sym, ap, ◌∙◌}
use Rattle.kinds.specs.declared.Unread.TheVariants as unread
use Rattle.refusals.specs.Refusals.{reason_of}
use Rattle.refusals.proofs.reason_of.Goals as goal

pub returns-in-Ok : goal.returns-in-Ok
returns-in-Ok c =
    c.of_command.ensures ∙ sym (ap (reason_of c.args.guard c.args.books c.args.m) c.in-Ok.is)

pub returns-in-Err-Syntax : goal.returns-in-Err-Syntax
returns-in-Err-Syntax c =
    let why : c.in-Err-Syntax.field-0 ≡ unread.Syntax = rw c.in-Err-Syntax.is at c.in-Err-Syntax.field-0-is in
    rw (c.in-Err-Syntax.is, why) refl

pub returns-in-Err-Unknown : goal.returns-in-Err-Unknown
returns-in-Err-Unknown c =
    let why : c.in-Err-Unknown.field-0 ≡ unread.Unknown = rw c.in-Err-Unknown.is at c.in-Err-Unknown.field-0-is in
    rw (c.in-Err-Unknown.is, why) refl

use Rattle.std.proofs.lemmas.Result.{err_from_is_err_and}
use mathlib.Core.Path.{sym, ◌∙◌}
use Rattle.kinds.proofs.Forms.{found, missed}
use Rattle.command.proofs.Marks.{of_100, unmarked, marked, formless}
use Rattle.command.proofs.parse.Goals as goal

pub returns-in_err-command : goal.returns-in_err-command
returns-in_err-command c =
    let p = err_from_is_err_and c.from_residual.result c.from_residual.ensures.1 in
    rw (p.1, p.2) (formless c.args.code c.args.bytes.now _ (sym c.form_of.ensures ∙ c.in_err-command.was))

pub returns-then-code-eq-SHOW : goal.returns-then-code-eq-SHOW
returns-then-code-eq-SHOW c = sym c.in_ok-command.was ∙ c.form_of.ensures ∙ of_100 c.args.code c.args.bytes.now c.if-code-eq-SHOW.true

pub returns-then-find-bytes : goal.returns-then-find-bytes
returns-then-find-bytes c =
    marked c.args.code c.args.bytes.now _ c.if-code-eq-SHOW.false (found 0x10 c.args.bytes.now c.find.result c.find.ensures c.if-find-bytes.true) (sym c.form_of.ensures ∙ c.in_ok-command.was)

pub returns : goal.returns
returns c =
    sym c.in_ok-command.was ∙ c.form_of.ensures ∙ unmarked c.args.code c.args.bytes.now c.if-code-eq-SHOW.false (missed 0x10 c.args.bytes.now c.find.result c.find.ensures c.if-find-bytes.false)

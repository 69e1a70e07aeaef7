use mathlib.Core.Path.{sym, ap, ◌∙◌}
use lib.ListN.{drop}
use Rattle.line.specs.Listening.{listened_to, frame_behind}
use Rattle.machine.proofs.Beginning.{too_little, heard_first, rest_from}
use Rattle.machine.proofs.begin.Goals as goal

pub returns-then-not-is_enough : goal.returns-then-not-is_enough
returns-then-not-is_enough c =
    too_little c.args.device c.args.frame.now c.args.display.now c.args.room c.args.lines (drop c.args.from c.args.bytes.now) c.not_begun.result c.not_begun.ensures (sym c.is_enough.ensures ∙ c.if-not-is_enough.true)

pub returns : goal.returns
returns c =
    let rest = rest_from c.args.from c.min-start.result c.args.bytes.now c.min-start.ensures in
    heard_first c.args.device c.args.frame.now c.args.display.now c.args.room c.args.lines (drop c.args.from c.args.bytes.now) c.listen-listened.result _ _ c.ask-asked.result
    (sym c.is_enough.ensures ∙ c.if-not-is_enough.false)
    (c.listen-listened.ensures.value ∙ ap (listened_to c.args.device.line c.args.frame.now) rest)
    (c.listen-listened.ensures.frame_after ∙ ap (frame_behind c.args.device.line c.args.frame.now) rest)
    c.ask-asked.ensures.value
    c.ask-asked.ensures.display_after

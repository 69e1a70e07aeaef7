use mathlib.Core.Path.{sym, ◌∙◌}
use Rattle.exchange.specs.Exchange.{heard_some}
use Rattle.exchange.proofs.Hearing.{timeout_heard, came_in_time, none_in_time}
use Rattle.exchange.proofs.hear_back.Goals as goal

pub returns-then-not-is_waiting : goal.returns-then-not-is_waiting
returns-then-not-is_waiting c =
    came_in_time c.args.frame.now (heard_some c.args.frame.now c.args.till c.args.answer.now c.args.buf.now c.args.bytes.now) _ c.hear_some-said.ensures (sym c.is_waiting.ensures ∙ c.if-not-is_waiting.true)

pub returns : goal.returns
returns c =
    let waiting = c.hear_some-said.result.till in
    let held = c.hear_some-said.new.answer in
    let buffer = c.hear_some-said.new.buf in
    timeout_heard c.args.frame.now waiting held buffer _ _ (c.timeout.ensures.by_index held) (c.timeout.ensures.by_index_2 held)
    ∙ none_in_time c.args.frame.now (heard_some c.args.frame.now c.args.till c.args.answer.now c.args.buf.now c.args.bytes.now) _ c.hear_some-said.ensures (sym c.is_waiting.ensures ∙ c.if-not-is_waiting.false)

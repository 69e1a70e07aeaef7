use Rattle.std.proofs.Common.{◌≡◌, refl}
use Rattle.tape.specs.Noting.{NotedDown}
use Rattle.runs.specs.Running.{Running, one_call}
use Rattle.runs.proofs.Calling.{call_is, still, fewer, all_heard_lem}
use Rattle.runs.proofs.hear_run.Goals as goal

pub loop-run-preserved : goal.loop-run-preserved
loop-run-preserved c =
    let a = c.args in
    let i = c.loop-run in
    let h = c.hear-heard in
    let n = c.note_down-run in
    let s : Running = record { run = i.run; frame = i.frame; last = i.last; buffer = i.buf; display = i.display; sheet = i.sheet; out = i.out; orders = i.orders } in
    let noted : NotedDown = record { run = n.result; out = n.new.out; orders = n.new.orders } in
    still a.bytes.now _ s _ c.loop-run-test.true (call_is a.bytes.now s h.result h.new.frame h.new.last h.new.buf h.new.display h.new.sheet noted h.ensures.0 n.ensures) i.invariant

pub loop-run-smaller : goal.loop-run-smaller
loop-run-smaller c =
    let a = c.args in
    let i = c.loop-run in
    let h = c.hear-heard in
    let n = c.note_down-run in
    let s : Running = record { run = i.run; frame = i.frame; last = i.last; buffer = i.buf; display = i.display; sheet = i.sheet; out = i.out; orders = i.orders } in
    let noted : NotedDown = record { run = n.result; out = n.new.out; orders = n.new.orders } in
    fewer a.bytes.now s _ c.loop-run-test.true (call_is a.bytes.now s h.result h.new.frame h.new.last h.new.buf h.new.display h.new.sheet noted h.ensures.0 n.ensures)

pub returns : goal.returns
returns c =
    let i = c.loop-run in
    all_heard_lem c.args.bytes.now _ (record { run = i.run; frame = i.frame; last = i.last; buffer = i.buf; display = i.display; sheet = i.sheet; out = i.out; orders = i.orders }) c.loop-run-test.false i.invariant

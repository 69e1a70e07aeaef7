use Rattle.std.proofs.Common.{drop}
use Rattle.device.proofs.Calls.{the_call}
use Rattle.device.proofs.hear.Goals as goal

pub returns : goal.returns
returns c =
    let a = c.args in
    let few = c.finish-ended.ensures.count_bound in (
      the_call a.device a.frame.now a.last.now a.buf.now a.display.now a.sheet.now (drop a.from a.bytes.now)
          c.length_of-lines.result c.begin-begun.result c.begin-begun.new.frame c.begin-begun.new.display
          c.find-at.result c.get-found.result c.finish-ended.result c.finish-ended.new.last c.finish-ended.new.buf c.tell.new.sheet
          c.length_of-lines.ensures c.begin-begun.ensures c.find-at.ensures c.get-found.ensures c.finish-ended.ensures.buf_after c.tell.ensures few,
      few,
    )

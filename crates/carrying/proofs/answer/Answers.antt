use mathlib.Core.Path.{◌∙◌}
use native.Mathlib.Omega.{arith}
use Rattle.answers.specs.Contents.{content_of}
use Rattle.answers.specs.Status.{status_of}
use Rattle.answers.proofs.Shown.{shown_short, status_six}
use Rattle.carrying.proofs.Working.{seal_size, seal_bytes, work_is}
use Rattle.carrying.proofs.answer.Goals as goal

pub returns : goal.returns
returns c =
    let d = c.args.deed in
    let few = shown_short c.args.books.day d.books d.shown c.sized.ensures.0 c.sized.ensures.1 c.sized.ensures.2 in
    let content = content_of d.shown c.args.books.day d.books in
    let status = status_of d.number d.books in
    let size = seal_size c.args.buf.now content status c.status-status.result c.args.seq c.args.code c.show-n.result _ _ c.seal_answer-built.result c.requires few (status_six d.number d.books) c.show-n.ensures.value c.show-n.ensures.buf_after c.status-status.ensures c.seal_answer-built.ensures in
    let bytes = seal_bytes c.args.buf.now content status c.status-status.result c.args.seq c.args.code c.show-n.result _ _ c.seal_answer-built.result c.requires few (status_six d.number d.books) c.show-n.ensures.value c.show-n.ensures.buf_after c.status-status.ensures c.seal_answer-built.ensures in record {
      buf_after = work_is c.args.books c.args.seq c.args.code d c.unwrap_or.result c.args.buf.now _ (c.unwrap_or.ensures ∙ size.0) bytes;
      count_bound = omega (arith, size.1);
    }

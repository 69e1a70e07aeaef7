use mathlib.Core.Path.{ap, ◌∙◌}
use borrow.Author.Tests.{not-false}
use Rattle.items.specs.Items.{cut_items}
use Rattle.items.specs.declared.Kind.TheVariants.{Cut}
use Rattle.sentences.proofs.Putting.{put_as, put_then}
use Rattle.story.specs.Story.{part_text}
use Rattle.story.proofs.Choosing.{ends_cut}
use Rattle.story.proofs.put_ends.Goals as goal

pub returns : goal.returns
returns c =
    let lines = c.cut_items-lines.ensures ∙ ap (cut_items c.args.trail.reader.count) c.expected_at-expected.ensures in
    let part = put_as c.put_part-part.ensures (ap (part_text c.args.html Cut c.args.trail c.args.shadow.now) lines) in
    put_as (put_then part c.put_end.ensures) (ends_cut c.args.html c.args.trail c.args.shadow.now (not-false c.args.trail.reader.inside c.if-not-reader.false))

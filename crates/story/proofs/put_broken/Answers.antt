use mathlib.Core.Path.{ap, ◌∙◌}
use Rattle.items.specs.Items.{broken_items}
use Rattle.items.specs.declared.Kind.TheVariants.{Broken}
use Rattle.sentences.proofs.Putting.{put_as, put_then}
use Rattle.story.specs.Story.{part_text}
use Rattle.story.proofs.put_broken.Goals as goal

pub returns : goal.returns
returns c =
    let lines = c.broken_items-lines.ensures ∙ ap (broken_items c.args.trail.reader.count c.args.byte) c.expected_at-expected.ensures in
    let part = put_as c.put_part-part.ensures (ap (part_text c.args.html Broken c.args.trail c.args.shadow.now) lines) in
    put_then (put_then part c.put_reply-reply.ensures) c.put_end.ensures

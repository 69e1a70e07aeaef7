use Rattle.sentences.proofs.Putting.{put_then}
use Rattle.pages.proofs.put_heading.Goals as goal

pub returns : goal.returns
returns c = put_then (put_then c.put_section-section.ensures c.put_title-title.ensures) c.put_either.ensures

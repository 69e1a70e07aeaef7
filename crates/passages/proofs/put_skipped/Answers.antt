use mathlib.Core.Path.{ap}
use mathlib.Core.List.{[]}
use borrow.Author.Tests.{eq-eqb, ne_eqb}
use Rattle.items.specs.declared.Kind.TheVariants.{Skipped}
use Rattle.sentences.proofs.Putting.{put_as, put_then}
use Rattle.pages.specs.Pages.{headed}
use Rattle.passages.proofs.put_skipped.Goals as goal

pub returns-then-count-eq0 : goal.returns-then-count-eq0
returns-then-count-eq0 c =
    put_as c.put.ensures (rw (eq-eqb c.args.count 0 c.if-count-eq0.true))

pub returns : goal.returns
returns c =
    let head = put_as c.put_heading-told.ensures (ap (λ o. headed c.args.html Skipped o []) c.saturating_sub-begin.ensures) in
    put_as (put_then (put_then head c.put_item-next.ensures) c.put_end.ensures) (rw (ne_eqb c.args.count 0 c.if-count-eq0.false))

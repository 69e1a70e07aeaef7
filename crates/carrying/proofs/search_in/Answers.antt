use mathlib.Core.Path.{sym, ap, ◌∙◌}
use Rattle.rules.specs.Searches.{search_for}
use Rattle.carrying.specs.Carrying.{search_in}
use Rattle.carrying.proofs.search_in.Goals as goal

pub returns-in-Ok : goal.returns-in-Ok
returns-in-Ok c =
    let b = c.args.books in
    c.search_for.ensures ∙ ap (search_for b) c.view_of.ensures ∙ sym (ap (search_in b) c.in-Ok.is)

pub returns-in-Err : goal.returns-in-Err
returns-in-Err c = c.no_search.ensures ∙ sym (ap (search_in c.args.books) c.in-Err.is)

use mathlib.Core.Path.{sym, ◌∙◌}
use Rattle.labels.proofs.Tabs.{first_none, rest_starts, tab_length, first_length, first_is}
use Rattle.labels.proofs.first_line.Goals as goal

pub returns-in_default : goal.returns-in_default
returns-in_default c = first_none c.args.s.now (sym c.behind_tab.ensures ∙ c.in_default.is)

pub overflow_sub-tab : goal.overflow_sub-tab
overflow_sub-tab c =
    rest_starts c.args.s.now _ (sym c.behind_tab.ensures ∙ c.in-Some.is)

pub slice_bounds-find-end : goal.slice_bounds-find-end
slice_bounds-find-end c =
    tab_length c.args.s.now _ (sym c.behind_tab.ensures ∙ c.in-Some.is)

pub slice_bounds-result-end-2 : goal.slice_bounds-result-end-2
slice_bounds-result-end-2 c =
    first_length c.args.s.now _ (sym c.behind_tab.ensures ∙ c.in-Some.is) c.find-end.result c.find-end.ensures

pub returns : goal.returns
returns c =
    first_is c.args.s.now _ (sym c.behind_tab.ensures ∙ c.in-Some.is) c.find-end.result c.find-end.ensures

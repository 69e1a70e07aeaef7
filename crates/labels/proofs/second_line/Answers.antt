use mathlib.Core.Path.{sym, ◌∙◌}
use native.Mathlib.Omega.{arith}
use Rattle.labels.proofs.Tabs.{second_none, rest_starts, rest_within, tab_length, feed_within, second_empty, second_is}
use Rattle.labels.proofs.second_line.Goals as goal

pub returns-in_default : goal.returns-in_default
returns-in_default c = second_none c.args.s.now (sym c.behind_tab.ensures ∙ c.in_default.is)

pub overflow_sub-tab : goal.overflow_sub-tab
overflow_sub-tab c =
    rest_starts c.args.s.now _ (sym c.behind_tab.ensures ∙ c.in-Some.is)

pub slice_bounds-find-end : goal.slice_bounds-find-end
slice_bounds-find-end c =
    tab_length c.args.s.now _ (sym c.behind_tab.ensures ∙ c.in-Some.is)

pub returns-then-at-tab : goal.returns-then-at-tab
returns-then-at-tab c =
    second_empty c.args.s.now _ (sym c.behind_tab.ensures ∙ c.in-Some.is) c.find-at.result c.find-at.ensures c.if-at-tab.true

pub overflow_add-start : goal.overflow_add-start
overflow_add-start c =
    omega (arith, feed_within c.args.s.now _ (sym c.behind_tab.ensures ∙ c.in-Some.is) c.find-at.result c.find-at.ensures)

pub slice_bounds-result-count : goal.slice_bounds-result-count
slice_bounds-result-count c =
    omega (arith, feed_within c.args.s.now _ (sym c.behind_tab.ensures ∙ c.in-Some.is) c.find-at.result c.find-at.ensures)

pub slice_bounds-result-start : goal.slice_bounds-result-start
slice_bounds-result-start c =
    omega (arith, feed_within c.args.s.now _ (sym c.behind_tab.ensures ∙ c.in-Some.is) c.find-at.result c.find-at.ensures)

pub slice_bounds-result-end-2 : goal.slice_bounds-result-end-2
slice_bounds-result-end-2 c =
    omega (arith, rest_within c.args.s.now _ (sym c.behind_tab.ensures ∙ c.in-Some.is))

pub returns : goal.returns
returns c =
    second_is c.args.s.now _ (sym c.behind_tab.ensures ∙ c.in-Some.is) c.find-at.result c.find-at.ensures

use mathlib.Core.Path.{sym, ◌∙◌}
use native.Mathlib.Omega.{arith}
use Rattle.text.proofs.Cutting.{place_within, cut_length}
use Rattle.labels.proofs.Tabs.{no_tab, no_texts, rest_at_lem}
use Rattle.labels.proofs.behind_tab.Goals as goal

pub returns-then-at-s : goal.returns-then-at-s
returns-then-at-s c = no_tab c.args.s.now c.find-at.result c.find-at.ensures c.if-at-s.true

pub slice_bounds-are_texts-end : goal.slice_bounds-are_texts-end
slice_bounds-are_texts-end c = cut_length 0x09 c.args.s.now c.find-at.result c.find-at.ensures

pub returns-then-not-are_texts : goal.returns-then-not-are_texts
returns-then-not-are_texts c =
    let s = c.args.s.now in
    no_texts s c.find-at.result c.find-at.ensures (omega (arith, place_within 0x09 s)) (sym c.are_texts.ensures ∙ c.if-not-are_texts.true)

pub overflow_add-result : goal.overflow_add-result
overflow_add-result c = omega (arith, place_within 0x09 c.args.s.now)

pub returns : goal.returns
returns c =
    let s = c.args.s.now in
    rest_at_lem s c.find-at.result c.find-at.ensures (omega (arith, place_within 0x09 s)) (sym c.are_texts.ensures ∙ c.if-not-are_texts.false)

use mathlib.Core.Path.{sym, ap, ◌∙◌}
use Prim.Native.Nat.{◌+◌}
use native.Mathlib.Omega.{arith}
use Rattle.labels.specs.Texts.{is_text}
use Rattle.text.proofs.Cutting.{place_within, cut_length, to_end}
use Rattle.labels.proofs.Tabs.{first_not, one_text, two_texts}
use Rattle.labels.proofs.are_texts.Goals as goal

pub slice_bounds-is_text-end : goal.slice_bounds-is_text-end
slice_bounds-is_text-end c = cut_length 0x0A c.args.s.now c.find-at.result c.find-at.ensures

pub returns-then-not-is_text : goal.returns-then-not-is_text
returns-then-not-is_text c =
    first_not c.args.s.now c.find-at.result c.find-at.ensures (sym c.is_text.ensures ∙ c.if-not-is_text.true)

pub returns-then-at-s : goal.returns-then-at-s
returns-then-at-s c =
    one_text c.args.s.now c.find-at.result c.find-at.ensures (sym c.is_text.ensures ∙ c.if-not-is_text.false) c.if-at-s.true

pub overflow_add-next : goal.overflow_add-next
overflow_add-next c = omega (arith, place_within 0x0A c.args.s.now)

pub slice_bounds-is_text-count : goal.slice_bounds-is_text-count
slice_bounds-is_text-count c = omega (arith, place_within 0x0A c.args.s.now)

pub slice_bounds-is_text-start : goal.slice_bounds-is_text-start
slice_bounds-is_text-start c = omega (arith, place_within 0x0A c.args.s.now)

pub returns : goal.returns
returns c =
    let s = c.args.s.now in
    c.is_text-2.ensures ∙ ap is_text (to_end (c.find-at.result + 1) s)
    ∙ two_texts s c.find-at.result c.find-at.ensures (sym c.is_text.ensures ∙ c.if-not-is_text.false)

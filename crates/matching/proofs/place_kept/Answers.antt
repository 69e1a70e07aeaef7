use mathlib.Core.Path.{refl, sym, ap, ◌∙◌}
use native.Mathlib.Omega.{arith}
use Rattle.sheet.specs.Sheet.{matches}
use Rattle.sheet.proofs.Newest.{newest_zero, newest_hit, newest_miss}
use Rattle.matching.proofs.place_kept.Goals as goal

pub loop-i-init : goal.loop-i-init
loop-i-init c = refl

pub returns-then-matches_line : goal.returns-then-matches_line
returns-then-matches_line c =
    let hit = sym (ap (λ x. matches x c.args.search.wanted) c.line_at.ensures) ∙ sym c.matches_line.ensures ∙ c.if-matches_line.true in
    sym (newest_hit c.args.sheet c.args.search.wanted c.args.search.lines c.loop-i.i _ (omega arith) hit) ∙ c.loop-i.invariant

pub loop-i-preserved : goal.loop-i-preserved
loop-i-preserved c =
    let miss = sym (ap (λ x. matches x c.args.search.wanted) c.line_at.ensures) ∙ sym c.matches_line.ensures ∙ c.if-matches_line.false in
    sym (newest_miss c.args.sheet c.args.search.wanted c.args.search.lines c.loop-i.i _ (omega arith) miss) ∙ c.loop-i.invariant

pub returns : goal.returns
returns c =
    sym (newest_zero c.args.sheet c.args.search.wanted c.args.search.lines c.loop-i.i (omega arith)) ∙ c.loop-i.invariant

use mathlib.Core.Path.{◌≡◌, refl, sym, ◌∙◌}
use native.Mathlib.Omega.{arith}
use borrow.Author.Tests.{eq-eqb, ne_eqb}
use Rattle.std.proofs.Common.{rules, tests}
use Rattle.std.proofs.lemmas.Iterator.{YieldsList-from_slice, IsFirst-from_position, index_from_first}
use Rattle.text.specs.Parts.{first_at}
use Rattle.text.proofs.find.Goals as goal

pub returns : goal.returns
returns c =
    let b = c.args.b in
    let first = IsFirst-from_position _ _ c.position.result (λ x. x ≡ b) (λ x. x ≡ b → ⊥) c.position.ensures.ran (YieldsList-from_slice c.args.s.now cc) (λ x q k. search (rules, tests)) (λ x q k. search (rules, tests)) in
    c.unwrap_or.ensures ∙ sym (index_from_first (first_at b) (λ x. x ≡ b) (λ x. x ≡ b → ⊥) refl (λ x xs e. rw (eq-eqb x b e)) (λ x xs e. rw (ne_eqb x b e) (omega arith)) c.args.s.now c.position.result first)

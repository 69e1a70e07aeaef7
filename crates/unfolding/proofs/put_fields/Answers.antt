-- The loop's invariant: with the fields from here on put here, all are put; no field has fewer bytes than its comma.
use Prim.Native.Nat.{◌-◌}
use mathlib.Core.Path.{◌≡◌}
use native.Mathlib.Omega.{arith}
use lib.ListN.{length}
use Rattle.sentences.proofs.Filling.{rest_start, rest_turn, rest_done}
use Rattle.unfolding.proofs.Fields.{field_within, fields_next, fields_done}
use Rattle.unfolding.proofs.put_fields.Goals as goal

pub loop-from-init : goal.loop-from-init
loop-from-init c =
    let content = c.args.content.now in
    let all : length content - 0 ≡ length content = omega arith in
    (omega arith, omega arith, rw all (rest_start _ c.min-place.ensures))

pub loop-from-preserved : goal.loop-from-preserved
loop-from-preserved c =
    let content = c.args.content.now in
    let within = field_within content c.loop-from.from _ c.field_at-field.ensures (omega arith) in (
      omega (arith, within),
      omega (arith, within),
      rest_turn c.loop-from.invariant.2 _ _ (fields_next c.args.html c.args.code content c.loop-from.i c.loop-from.from _ (omega arith) (omega arith) c.field_at-field.ensures) c.put_named-place.ensures,
    )

pub returns : goal.returns
returns c =
    rest_done c.loop-from.invariant.2 (fields_done c.args.html c.args.code _ c.loop-from.i c.args.content.now c.loop-from.from c.loop-from-test.false)

use lib.ListN.{length-take, length, take, drop}
use Prim.Native.Nat.{◌+◌, ◌-◌}
use native.Mathlib.Omega.{arith}
use Rattle.kinds.specs.Fields.{comma}
use Rattle.kinds.proofs.Forms.{at_most_lem, behind, none_behind}
use Rattle.kinds.proofs.Openings.{name_none, name_at}
use Rattle.kinds.proofs.operators.name_in.Goals as goal

pub returns-then-first-s : goal.returns-then-first-s
returns-then-first-s c =
    let s = c.args.s.now in
    name_none s (none_behind comma s c.find-first.result c.find-first.ensures c.if-first-s.true)

pub overflow_add-next : goal.overflow_add-next
overflow_add-next c = omega (arith, at_most_lem comma c.args.s.now c.find-first.result c.find-first.ensures)

pub slice_bounds-rest-count : goal.slice_bounds-rest-count
slice_bounds-rest-count c = omega (arith, at_most_lem comma c.args.s.now c.find-first.result c.find-first.ensures)

pub slice_bounds-rest-start : goal.slice_bounds-rest-start
slice_bounds-rest-start c = omega (arith, at_most_lem comma c.args.s.now c.find-first.result c.find-first.ensures)

pub returns-then-second-rest : goal.returns-then-second-rest
returns-then-second-rest c =
    let s = c.args.s.now in
    let r = take (length s - (c.find-first.result + 1)) (drop (c.find-first.result + 1) s) in
    name_at s r _ (behind comma s c.find-first.result c.find-first.ensures) (none_behind comma r c.find-second.result c.find-second.ensures c.if-second-rest.true)

pub overflow_add-last : goal.overflow_add-last
overflow_add-last c =
    let s = c.args.s.now in
    let r = take (length s - (c.find-first.result + 1)) (drop (c.find-first.result + 1) s) in
    omega (arith, at_most_lem comma r c.find-second.result c.find-second.ensures, length-take (length s - (c.find-first.result + 1)) (drop (c.find-first.result + 1) s))

pub slice_bounds-result-count : goal.slice_bounds-result-count
slice_bounds-result-count c =
    let s = c.args.s.now in
    let r = take (length s - (c.find-first.result + 1)) (drop (c.find-first.result + 1) s) in
    omega (arith, at_most_lem comma r c.find-second.result c.find-second.ensures)

pub slice_bounds-result-start : goal.slice_bounds-result-start
slice_bounds-result-start c =
    let s = c.args.s.now in
    let r = take (length s - (c.find-first.result + 1)) (drop (c.find-first.result + 1) s) in
    omega (arith, at_most_lem comma r c.find-second.result c.find-second.ensures)

pub returns : goal.returns
returns c =
    let s = c.args.s.now in
    let r = take (length s - (c.find-first.result + 1)) (drop (c.find-first.result + 1) s) in
    name_at s r _ (behind comma s c.find-first.result c.find-first.ensures) (behind comma r c.find-second.result c.find-second.ensures)

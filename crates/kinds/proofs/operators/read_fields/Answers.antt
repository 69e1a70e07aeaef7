use lib.ListN.{length-take, length, take, drop}
use mathlib.Core.Path.{◌∙◌}
use Prim.Native.Nat.{◌+◌, ◌-◌}
use native.Mathlib.Omega.{arith}
use Rattle.text.proofs.Cutting.{cut_length}
use Rattle.kinds.proofs.Forms.{found_ne, missed_eq, at_most_lem, front, behind}
use Rattle.kinds.specs.Fields.{comma}
use Rattle.kinds.proofs.Openings.{no_comma, one_comma, two_commas}
use Rattle.kinds.proofs.operators.read_fields.Goals as goal

pub returns-then-first-s : goal.returns-then-first-s
returns-then-first-s c =
    let s = c.args.s.now in
    no_comma c.args.third s (missed_eq comma s c.find-first.result c.find-first.ensures c.if-first-s.true)

pub overflow_add-next : goal.overflow_add-next
overflow_add-next c = omega (arith, at_most_lem comma c.args.s.now c.find-first.result c.find-first.ensures)

pub slice_bounds-rest-count : goal.slice_bounds-rest-count
slice_bounds-rest-count c = omega (arith, at_most_lem comma c.args.s.now c.find-first.result c.find-first.ensures)

pub slice_bounds-rest-start : goal.slice_bounds-rest-start
slice_bounds-rest-start c = omega (arith, at_most_lem comma c.args.s.now c.find-first.result c.find-first.ensures)

pub returns-then-second-rest : goal.returns-then-second-rest
returns-then-second-rest c =
    let s = c.args.s.now in
    let r = take (length s - (c.find-first.result + 1)) (drop (c.find-first.result + 1) s) in
    one_comma c.args.third s r (behind comma s c.find-first.result c.find-first.ensures) (found_ne comma s c.find-first.result c.find-first.ensures c.if-first-s.false) (missed_eq comma r c.find-second.result c.find-second.ensures c.if-second-rest.true)

pub overflow_add-last : goal.overflow_add-last
overflow_add-last c =
    let s = c.args.s.now in
    let r = take (length s - (c.find-first.result + 1)) (drop (c.find-first.result + 1) s) in
    omega (arith, at_most_lem comma r c.find-second.result c.find-second.ensures, length-take (length s - (c.find-first.result + 1)) (drop (c.find-first.result + 1) s))

pub slice_bounds-read_third-end : goal.slice_bounds-read_third-end
slice_bounds-read_third-end c = cut_length comma c.args.s.now c.find-first.result c.find-first.ensures

pub slice_bounds-read_third-end-2 : goal.slice_bounds-read_third-end-2
slice_bounds-read_third-end-2 c =
    let s = c.args.s.now in
    let r = take (length s - (c.find-first.result + 1)) (drop (c.find-first.result + 1) s) in
    cut_length comma r c.find-second.result c.find-second.ensures

pub slice_bounds-read_third-count : goal.slice_bounds-read_third-count
slice_bounds-read_third-count c =
    let s = c.args.s.now in
    let r = take (length s - (c.find-first.result + 1)) (drop (c.find-first.result + 1) s) in
    omega (arith, at_most_lem comma r c.find-second.result c.find-second.ensures)

pub slice_bounds-read_third-start : goal.slice_bounds-read_third-start
slice_bounds-read_third-start c =
    let s = c.args.s.now in
    let r = take (length s - (c.find-first.result + 1)) (drop (c.find-first.result + 1) s) in
    omega (arith, at_most_lem comma r c.find-second.result c.find-second.ensures)

pub returns : goal.returns
returns c =
    let s = c.args.s.now in
    let r = take (length s - (c.find-first.result + 1)) (drop (c.find-first.result + 1) s) in
    c.read_third.ensures
    ∙ two_commas c.args.third s r _ _ _ (behind comma s c.find-first.result c.find-first.ensures) (found_ne comma s c.find-first.result c.find-first.ensures c.if-first-s.false) (found_ne comma r c.find-second.result c.find-second.ensures c.if-second-rest.false)
    (front comma s c.find-first.result c.find-first.ensures) (front comma r c.find-second.result c.find-second.ensures) (behind comma r c.find-second.result c.find-second.ensures)

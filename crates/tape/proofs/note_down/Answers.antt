use mathlib.Core.Path.{◌≡◌, ap, ◌∙◌}
use mathlib.Core.Bool.{◌&&◌}
use Prim.Native.Nat.{ℕ, ◌+◌, ◌-◌, min}
use mathlib.Core.List.{List}
use native.Mathlib.Omega.{arith}
use lib.Dec.{ltb}
use lib.ListN.{length, take, drop}
use lib.Seq.{sets}
use Rattle.machine.specs.Hearing.{carried_by}
use Rattle.machine.specs.declared.Hearing.{Hearing}
use Rattle.machine.proofs.Working.{take_min}
use Rattle.tape.specs.Noting.{listing, NotedDown, place_after, noted_down}
use Rattle.tape.specs.declared.Run.{Run}
use Rattle.tape.proofs.note_down.Goals as goal

module _ (run : Run) (h : Hearing) (frame buffer : List ℕ) (total : ℕ) (out orders : List ℕ) where
  abbrev noted : (place written listed : ℕ) → (out orders : List ℕ) → NotedDown
  noted place written listed o s =
      record { run = record { device = h.given.device; place = place; given = written; listed = listed; more = ltb 0 h.taken && ltb place total }; out = o; orders = s }

  noted-so : (count place written listed : ℕ) (out' orders' : List ℕ) → count ≡ min h.given.count (length buffer) → place ≡ place_after run.place h.taken total
      → listed ≡ min (run.listed + length (listing (carried_by h.call frame))) (length orders) → orders' ≡ sets orders run.listed (listing (carried_by h.call frame))
      → written ≡ min (run.given + length (take (count - 0) (drop 0 buffer))) (length out) → out' ≡ sets out run.given (take (count - 0) (drop 0 buffer))
      → noted place written listed out' orders' ≡ noted_down run h frame buffer total out orders
  noted-so count place written listed out' orders' ec ep el es ew eo =
      let off : count - 0 ≡ min h.given.count (length buffer) = omega (arith, ec) in
      let gives : take (count - 0) (drop 0 buffer) ≡ take h.given.count buffer = ap (λ k. take k buffer) off ∙ take_min h.given.count (length buffer) buffer (omega arith) in
      let written_is = ew ∙ ap (λ z. min (run.given + length z) (length out)) gives in
      let out_is = eo ∙ ap (sets out run.given) gives in
      λ i. noted (ep i) (written_is i) (el i) (out_is i) (es i)

pub returns : goal.returns
returns c =
    noted-so c.args.run c.args.heard c.args.frame.now c.args.buf.now c.args.total c.args.out.now c.args.orders.now c.min-count.result c.place_after-place.result c.append-written.result c.list_call-listed.result _ _
    c.min-count.ensures c.place_after-place.ensures c.list_call-listed.ensures.value c.list_call-listed.ensures.orders_after c.append-written.ensures.value c.append-written.ensures.out_after

-- The reason that is told has the number that the device replied with.
use mathlib.Core.Path.{◌≡◌, subst}
use mathlib.Core.Bool.{Bool, true, false, cond}
use mathlib.Core.List.{List}
use Prim.Native.Nat.{ℕ}
use native.Mathlib.Omega.{arith}
use lib.ListN.{take, drop}
use Rattle.command.specs.Commands.{parsed_of}
use Rattle.kinds.specs.Fields.{Parsed}
use Rattle.sheet.specs.Searches.{match_of}
use Rattle.line.specs.Listening.{listened_to, frame_behind}
use Rattle.line.specs.declared.Call.{Call}
use Rattle.line.specs.declared.Call.TheVariants.{Quiet, Nak, Again, Order}
use Rattle.line.specs.declared.Listened.{Listened}
use Rattle.line.specs.declared.Port.{Port}
use Rattle.carrying.specs.Carrying.{search_in}
use Rattle.refusals.specs.Numbers.{reason_number}
use Rattle.refusals.proofs.Numbered.{reason_number_lem}
use Rattle.machine.specs.Device.{Lent, enough, Machine, store_of, not_taken}
use Rattle.machine.specs.Answering.{answering}
use Rattle.machine.specs.Hearing.{PartHeard, hearing, after_part, carried_by}
use Rattle.machine.proofs.Parts.{at, two_halves}
use Rattle.witness.specs.Witness.{reason_among, witnessed}

module _ (m : Machine) (lent : Lent) (bytes : List ℕ) where
  abbrev Numbered : PartHeard → Type 0
  Numbered h = (seq code n : ℕ) → h.call ≡ Order seq code n → reason_number (reason_among (store_of m) (carried_by h.call h.after.machine.frame)) ≡ h.after.number

  -- what a call asks for is given
  asked : (call : Call) (l : Port) (frame : List ℕ) (taken : ℕ)
      → Numbered (record { after = answering call (at m.device.books m.device.guard m.last m.sheet lent l frame) lent; call = call; taken = taken })
  asked Quiet l frame taken seq code n e = let z : ◌≡◌ {A = ℕ} 0 1 = cc in absurd (omega arith)
  asked Nak l frame taken seq code n e = let z : ◌≡◌ {A = ℕ} 0 1 = cc in absurd (omega arith)
  asked Again l frame taken seq code n e = let z : ◌≡◌ {A = ℕ} 0 1 = cc in absurd (omega arith)
  asked (Order s c k) l frame taken seq code n e =
      let content : List ℕ = take k (drop 3 frame) in
      let p : Parsed = parsed_of c content in
      reason_number_lem m.device.guard m.device.books (match_of m.sheet (search_in m.device.books p)) content p

  heard : Numbered (hearing m lent bytes)
  heard =
      let x : Listened = listened_to m.device.line m.frame bytes in
      let frame : List ℕ = frame_behind m.device.line m.frame bytes in
      subst Numbered (two_halves m.device.books m.device.guard m.last m.sheet lent bytes m.device.line m.frame) (asked x.call x.line frame x.taken)

  -- PROTOCOL 2.1: of a call that carries out a command: 0 and Done, or what it is refused with and a reason of that number
  pub the_reason_has_the_number : (seq code n : ℕ) → (after_part m lent bytes).call ≡ Order seq code n → reason_number (witnessed m lent bytes).reason ≡ (after_part m lent bytes).after.number
  the_reason_has_the_number = go (enough lent)
    where
      go : (long : Bool) → Numbered (cond long (hearing m lent bytes) (record { after = not_taken m lent; call = Quiet; taken = 0 }))
      go true seq code n e = heard seq code n e
      go false seq code n e = let z : ◌≡◌ {A = ℕ} 0 1 = cc in absurd (omega arith)

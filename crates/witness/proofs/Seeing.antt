-- Laws of a call that is witnessed, a branch of the code each.
use Rattle.std.specs.Prelude.{Option}
use mathlib.Core.Path.{◌≡◌, sym, ap, ◌∙◌}
use mathlib.Core.List.{List}
use Prim.Native.Nat.{ℕ, ◌+◌, ◌-◌, min}
use lib.ListN.{length, take, drop}
use Rattle.command.specs.Commands.{parsed_of}
use Rattle.kinds.specs.Fields.{Parsed}
use Rattle.sheet.specs.Searches.{match_of}
use Rattle.sheet.specs.declared.Search.{Search}
use Rattle.line.specs.declared.Call.{Call}
use Rattle.line.specs.declared.Call.TheVariants.{Order}
use Rattle.store.specs.Store.{Store}
use Rattle.carrying.specs.Carrying.{search_in}
use Rattle.reasons.specs.declared.Reason.{Reason}
use Rattle.refusals.specs.Refusals.{reason_of}
use Rattle.machine.specs.Device.{Lent, Machine, store_of}
use Rattle.machine.specs.Hearing.{PartHeard, after_part, carried_by}
use Rattle.machine.proofs.Beginning.{cut}
use Rattle.witness.specs.Witness.{reason_by, reason_among, witnessed}

-- an order's data, read, what the sheet says to it, and the reason
module _ (s : Store) (call : Call) (frame : List ℕ) (seq code n k : ℕ) where
  pub reason_is : (p : Parsed) (q : Search) (m : Option ℕ) (r : Reason) → call ≡ Order seq code n → length frame ≡ 256 → k ≡ min n 253
      → p ≡ parsed_of code (take (k + 3 - 3) (drop 3 frame)) → q ≡ search_in s.books p → m ≡ match_of s.sheet q → r ≡ reason_of s.guard s.books m p
      → r ≡ reason_among s (carried_by call frame)
  reason_is p q m r ec size ek ep eq em er =
      let read : p ≡ parsed_of code (take n (drop 3 frame)) = ep ∙ ap (parsed_of code) (cut s.books s.guard call frame seq code n k ec size ek) in
      er ∙ ap (λ z. reason_of s.guard s.books z p) (em ∙ ap (match_of s.sheet) eq) ∙ ap (reason_by s) read ∙ sym (ap (λ z. reason_among s (carried_by z frame)) ec)

-- the call and its reason
module _ (m : Machine) (lent : Lent) (bytes : List ℕ) where
  pub seen_is : (h : PartHeard) (r : Reason) → h ≡ after_part m lent bytes → r ≡ reason_among (store_of m) (carried_by h.call h.after.machine.frame)
      → record { heard = h; reason = r } ≡ witnessed m lent bytes
  seen_is h r eh er =
      ap (λ z. record { heard = h; reason = z }) er
      ∙ ap (λ (z : PartHeard). record { heard = z; reason = reason_among (store_of m) (carried_by z.call z.after.machine.frame) }) eh

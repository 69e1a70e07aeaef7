-- PROTOCOL 2.1, chapter 5, *Refused*; DECISIONS 72: a call of the device, and why the command that it carried out was refused.
use Rattle.std.specs.Prelude.{ℕ, List, [], ◌∷◌}
use Rattle.wire.specs.Frame.{Message}
use Rattle.command.specs.Commands.{parsed_of}
use Rattle.sheet.specs.Searches.{match_of}
use Rattle.store.specs.Store.{Store}
use Rattle.carrying.specs.Carrying.{search_in}
use Rattle.reasons.specs.declared.Reason.{Reason}
use Rattle.reasons.specs.declared.Reason.TheVariants.{Done}
use Rattle.refusals.specs.Refusals.{reason_of}
use Rattle.kinds.specs.Fields.{Parsed}
use Rattle.machine.specs.Device.{Lent, Machine, store_of}
use Rattle.machine.specs.Hearing.{PartHeard, after_part, carried_by}
use Rattle.kept.specs.ByValue.{next_of}
use Rattle.witness.specs.declared.Seen.{Seen}

-- the first reason against a command as read, by the guard, by the books, and by what the sheet says to it
abbrev pub reason_by : Store → Parsed → Reason
reason_by s p = reason_of s.guard s.books (match_of s.sheet (search_in s.books p)) p

-- the same of the command that a call carried out; Done where it carried out none
abbrev pub reason_among : Store → List Message → Reason
reason_among s [] = Done
reason_among s (m ∷ ms) = reason_by s (parsed_of m.code m.content)

-- a call, and the reason, by the store before the call
pub record Witnessed : Type 0 where
  pub heard : PartHeard
  pub reason : Reason

abbrev pub witnessed : Machine → Lent → List ℕ → Witnessed
witnessed m lent bytes =
    let h = after_part m lent bytes in
    record { heard = h; reason = reason_among (store_of m) (carried_by h.call h.after.machine.frame) }

-- the same as the code has it
abbrev pub seen_of : Seen → (frame last buffer display : List ℕ) → Witnessed
seen_of s frame last buffer display =
    record { heard = next_of s.next frame last buffer display; reason = s.reason }

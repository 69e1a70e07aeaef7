-- What the line's fields and answers say: a byte that asks for nothing, for NAK (5), for the last answer again (6), or a command to carry out.
use Rattle.std.specs.Prelude.{ℕ, Bool, true, false, cond, ◌&&◌, List, eqb, take}
use Rattle.wire.specs.declared.Way.TheVariants.{ToDevice}
use Rattle.reader.specs.Reading.{Event, read}
use Rattle.reader.specs.Fields.{place_of, reader_of, heard_of}
use Rattle.reader.specs.declared.Heard.{Heard}
use Rattle.reader.specs.declared.Heard.TheVariants as heards
use Rattle.line.specs.Turns.{Before, none, was}
use Rattle.line.specs.declared.Call.{Call}
use Rattle.line.specs.declared.Call.TheVariants.{Quiet, Nak, Again, Order}
use Rattle.line.specs.declared.Port.{Port}
use Rattle.line.specs.declared.Previous.{Previous}
use Rattle.line.specs.declared.Previous.TheVariants.{Nothing, Frame}

-- PROTOCOL 8.3: the frame before, with its answer at the front of a lent array
abbrev pub before_of : Previous → List ℕ → Before
before_of Nothing last = none
before_of (Frame seq code count) last = was seq code (take count last)

-- PROTOCOL 1.10: a repeat has the SEQ and CMD of the frame before, whatever its data
abbrev pub is_repeat : Previous → ℕ → ℕ → Bool
is_repeat Nothing seq code = false
is_repeat (Frame s c count) seq code = eqb s seq && eqb c code

-- PROTOCOL 2.1: the number of each call: 0 (byte taken), 5 (broken frame), 6 (repeat); an order has the number that carrying it out gives
abbrev pub call_number : Call → (carried : ℕ) → ℕ
call_number Quiet carried = 0
call_number Nak carried = 5
call_number Again carried = 6
call_number (Order seq code count) carried = carried

-- PROTOCOL 1.8, 1.10, 1.11: what reading brings asks for nothing (0), NAK (5), the last answer again (6), or is a command to carry out
abbrev pub call_for : Previous → Heard → Call
call_for p heards.Nothing = Quiet
call_for p heards.Broken = Nak
call_for p (heards.Whole seq code count) = cond (is_repeat p seq code) Again (Order seq code count)

abbrev pub call_of : Previous → Event → Call
call_of p e = call_for p (heard_of e)

-- PROTOCOL 1.1: one byte heard on the line
pub record Called : Type 0 where
  pub line : Port
  pub call : Call

abbrev pub called_of : Port → List ℕ → ℕ → Called
called_of l frame b =
    let step = read ToDevice (place_of l.reader frame) b in
    record { line = record { reader = reader_of step.place; previous = l.previous }; call = call_of l.previous step.event }

-- a byte that asks for nothing
abbrev pub is_quiet : Call → Bool
is_quiet Quiet = true
is_quiet Nak = false
is_quiet Again = false
is_quiet (Order seq code n) = false
